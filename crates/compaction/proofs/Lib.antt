pub mod Moving
pub mod Folding
pub mod Holding
pub mod Creates
pub mod Refused
