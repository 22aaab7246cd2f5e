pub mod Back
pub mod Examples
pub mod Halves
pub mod Published
pub mod Scaled
pub mod Whole
