pub mod ParseLaws
pub mod Long
pub mod AnswerLaws
pub mod LineLaws
pub mod FeedLaws
