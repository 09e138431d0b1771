pub mod Bytes
pub mod Lines
pub mod Replies
pub mod Words
