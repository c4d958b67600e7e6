pub mod BigLaws
pub mod SealedLaws
pub mod Splices
pub mod Loops
pub mod Fields
