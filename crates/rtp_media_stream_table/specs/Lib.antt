pub mod Arrivals
pub mod Indexed
pub mod Polled
pub mod StreamIndex
pub mod Streams
