pub mod Bytes
pub mod Rooms
pub mod Number
pub mod Parse
pub mod Answers
pub mod Lines
pub mod Feeding
pub mod Refusing
