pub mod State
pub mod Steps
pub mod Calls
pub mod Run
pub mod Inner
