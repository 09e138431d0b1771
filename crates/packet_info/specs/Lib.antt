pub mod Packets
pub mod Layers
pub mod Laws
