pub mod Examples
pub mod Pieces
pub mod Readings
pub mod Sizes
