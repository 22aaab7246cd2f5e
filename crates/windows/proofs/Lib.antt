pub mod Answers
pub mod Blocks
pub mod Windows
