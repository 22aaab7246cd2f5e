pub mod Examples
pub mod Numerals
pub mod Starts
