pub mod Gives
pub mod Joining
pub mod Numerals
pub mod Partings
pub mod Rounds
pub mod StepRounds
