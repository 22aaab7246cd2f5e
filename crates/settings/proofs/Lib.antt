pub mod Answers
pub mod Changing
