pub mod Letters
pub mod Marks
pub mod Moves
pub mod OneOfThree
pub mod WholeKeys
