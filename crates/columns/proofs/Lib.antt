pub mod Columns
pub mod Ends
