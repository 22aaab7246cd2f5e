pub mod Constants
pub mod Times
