pub mod Evaluation
pub mod Fill
pub mod Lanes
pub mod Lent
pub mod Machine
