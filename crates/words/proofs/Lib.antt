pub mod Prelude
pub mod Tests
pub mod Alls
pub mod Laws
pub mod CodedLaws
