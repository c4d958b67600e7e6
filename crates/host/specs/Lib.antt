pub mod Plain
pub mod Requests
pub mod Reads
pub mod Elections
