pub mod Answers
pub mod Looking
pub mod Finding
pub mod Filling
pub mod Showing
pub mod Replying
pub mod Unique
