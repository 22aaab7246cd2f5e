pub mod Answers
pub mod Basics
pub mod Holds
pub mod Lengths
pub mod Outcomes
pub mod Padded
