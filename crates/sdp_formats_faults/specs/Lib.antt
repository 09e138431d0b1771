pub mod FaultWords
pub mod Faults
pub mod Walking
