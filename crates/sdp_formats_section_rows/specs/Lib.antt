pub mod Attributes
pub mod Facts
pub mod Given
pub mod Mapped
pub mod Maps
pub mod SectionRows
pub mod TypeLists
