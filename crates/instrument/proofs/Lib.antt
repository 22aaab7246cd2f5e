pub mod Filled
pub mod Filling
pub mod LaneStacks
pub mod Lent
pub mod Running
pub mod Turns
