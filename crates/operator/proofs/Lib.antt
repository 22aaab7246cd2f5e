pub mod LaneLaws
pub mod Lent
pub mod Rounds
