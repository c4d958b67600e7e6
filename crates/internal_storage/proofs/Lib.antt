pub mod Effects
pub mod Arguments
pub mod Unique
pub mod Verdicts
pub mod Handed
