pub mod Commands
pub mod Laying
