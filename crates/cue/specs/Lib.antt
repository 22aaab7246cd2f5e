pub mod Answer
pub mod Handing
pub mod Words
