pub mod State
pub mod Run
pub mod Chain
pub mod Inner
