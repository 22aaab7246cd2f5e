pub mod Answers
pub mod Capacities
pub mod Lengths
pub mod Numbers
pub mod Padding
pub mod Parts
pub mod Refusals
