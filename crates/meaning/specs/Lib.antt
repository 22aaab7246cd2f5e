pub mod Answers
pub mod Before
pub mod Layout
pub mod Parts
pub mod ReadTokens
pub mod Sheets
