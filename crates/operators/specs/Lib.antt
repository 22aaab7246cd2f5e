pub mod Answers
pub mod OperatorLines
pub mod Steps
