pub mod Folds
pub mod Calls
pub mod Inner
