mod RowsByType
mod TypeLists
pub mod OneWalk
