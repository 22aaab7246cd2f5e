pub mod Mixing
pub mod Placing
pub mod Sounding
