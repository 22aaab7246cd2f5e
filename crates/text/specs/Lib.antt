pub mod Blanks
pub mod Characters
pub mod Fronts
pub mod Parsed
pub mod Quoted
