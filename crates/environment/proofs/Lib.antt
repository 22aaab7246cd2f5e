pub mod Answers
pub mod Limits
