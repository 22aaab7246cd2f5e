pub mod Answers
pub mod Counted
pub mod Files
pub mod HandedOn
pub mod Published
