pub mod Ops
pub mod Inner
