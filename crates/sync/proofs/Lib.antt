pub mod Checking
pub mod Holding
pub mod Syncing
pub mod Asking
