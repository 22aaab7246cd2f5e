pub mod Examples
pub mod LineCuts
pub mod LinePlaces
pub mod Named
pub mod Places
pub mod Tokens
