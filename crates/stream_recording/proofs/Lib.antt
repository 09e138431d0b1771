pub mod Ordering
pub mod Taking
