pub mod Newest
pub mod Many
pub mod Parts
pub mod Replies
pub mod Inner
