pub mod Whole
pub mod Three
pub mod Streams
pub mod VideoFrame
