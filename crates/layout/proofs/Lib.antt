pub mod Cuts
pub mod Fills
pub mod Laid
pub mod Longest
pub mod Regions
