pub mod AsBox
pub mod Asked
pub mod Bare
pub mod Cutting
pub mod Named
pub mod Telling
pub mod Unread
