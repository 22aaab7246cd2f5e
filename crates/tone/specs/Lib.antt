pub mod Power
pub mod Time
