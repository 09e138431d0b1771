pub mod Fitting
pub mod Lookups
pub mod Rising
pub mod Newest
pub mod Requested
