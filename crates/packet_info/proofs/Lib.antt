pub mod FormatLaw
pub mod UnitLaw
pub mod SizeLaw
