pub mod Recorded
pub mod Orders
