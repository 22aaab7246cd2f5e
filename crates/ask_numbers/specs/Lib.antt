pub mod Request
pub mod Answer
pub mod Block
pub mod Sines
