pub mod Digits
mod LevelsApart
pub mod RowLaws
pub mod TableLaws
