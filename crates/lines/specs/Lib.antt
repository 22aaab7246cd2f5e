pub mod Lines
pub mod Names
pub mod Tokens
