pub mod Digits
pub mod HexNumerals
pub mod Modes
