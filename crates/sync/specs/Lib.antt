pub mod Requests
pub mod Inner
