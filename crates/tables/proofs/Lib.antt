pub mod Entries
pub mod HeaderLines
pub mod MacroLines
pub mod MacrosGrown
pub mod Named
pub mod NamesGrown
pub mod Taken
