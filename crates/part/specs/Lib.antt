pub mod Body
pub mod Columns
pub mod Reading
