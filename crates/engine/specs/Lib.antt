pub mod Files
pub mod Stream
