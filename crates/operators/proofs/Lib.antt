pub mod Answers
pub mod Examples
pub mod Indents
pub mod Pieces
pub mod Steps
