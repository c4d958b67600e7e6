pub mod Telling
pub mod Inputs
pub mod Starts
