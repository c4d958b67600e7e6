pub mod ChangeLaws
pub mod ReplyLaws
pub mod SignLaws
pub mod OrderLaws
pub mod SliceLaws
pub mod RefusalLaws
pub mod GuardLaws
