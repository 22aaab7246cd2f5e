pub mod Counts
pub mod Durations
pub mod Examples
pub mod Lengths
pub mod Lookup
pub mod Powers
