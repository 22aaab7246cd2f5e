pub mod Pieces
pub mod Players
pub mod Sounding
pub mod Walk
