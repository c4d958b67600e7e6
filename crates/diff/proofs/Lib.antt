pub mod Giving
pub mod Telling
pub mod Unique
pub mod Refused
