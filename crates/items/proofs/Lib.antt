pub mod Answers
pub mod Commands
pub mod Ends
pub mod Notes
pub mod Starts
