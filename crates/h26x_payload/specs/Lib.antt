pub mod Codings
pub mod Depacketizers
pub mod Dispatch
pub mod Nothing
pub mod Packetizers
