pub mod Counts
pub mod Parts
pub mod Refusals
pub mod Repeats
pub mod Stars
