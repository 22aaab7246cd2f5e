pub mod Evaluation
pub mod Lanes
pub mod Lent
