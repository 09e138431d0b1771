pub mod Chains
pub mod Forwarding
pub mod Relayed
pub mod Relaying
pub mod Steps
pub mod Vp8Ids
