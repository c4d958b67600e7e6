pub mod Layout
pub mod Image
pub mod Reading
pub mod Calls
pub mod Typed
pub mod Inner
