pub mod Constants
pub mod Nonnegative
pub mod Scaling
pub mod Sign
pub mod Times
