pub mod Histories
pub mod Requests
pub mod Runs
