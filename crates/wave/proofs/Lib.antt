pub mod Examples
pub mod Published
pub mod Told
pub mod Writes
