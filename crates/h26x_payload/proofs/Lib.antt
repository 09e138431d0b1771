pub mod CodecLaws
pub mod Configured
pub mod Ids
pub mod Runs
