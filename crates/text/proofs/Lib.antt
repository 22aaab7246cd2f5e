pub mod Fronts
pub mod Joins
pub mod Passes
pub mod Passing
pub mod Rows
pub mod Sames
pub mod Starts
pub mod Walks
