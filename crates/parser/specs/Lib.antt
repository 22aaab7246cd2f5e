pub mod Columns
pub mod PartSteps
pub mod Walks
