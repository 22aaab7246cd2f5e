pub mod KeptCounts
pub mod LoopCounts
pub mod Passes
pub mod Repeats
