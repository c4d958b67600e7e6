pub mod Requests
pub mod Amid
pub mod Goings
pub mod Lasts
pub mod Turns
pub mod Gathered
