mod AlikeAttributes
pub mod AlikeLists
mod AlikeSessionAttributes
mod Both
mod EachOnce
mod KeyOrder
mod KeySets
mod OneMore
mod OneName
pub mod Preferred
mod SameParams
mod Tables
pub mod Turned
