pub mod Examples
pub mod Fronts
pub mod Owned
pub mod Places
pub mod Rendered
pub mod Samples
pub mod Windows
