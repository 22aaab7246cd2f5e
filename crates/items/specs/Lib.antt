pub mod Items
pub mod Steps
pub mod Written
