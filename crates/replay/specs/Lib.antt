pub mod Answering
pub mod Feeding
pub mod Input
pub mod Told
pub mod File
