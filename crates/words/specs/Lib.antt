pub mod All
pub mod Words
pub mod Coded
