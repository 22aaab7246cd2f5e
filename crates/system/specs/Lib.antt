pub mod Counts
pub mod Moving
