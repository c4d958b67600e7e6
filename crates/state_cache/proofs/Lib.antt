pub mod Small
pub mod Stands
pub mod Runs
pub mod Changes
pub mod Unique
pub mod Refused
pub mod Chain
