pub mod Named
pub mod Tables
