pub mod Bounds
pub mod Environment
pub mod Ranges
