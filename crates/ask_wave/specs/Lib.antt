pub mod Request
pub mod Answer
