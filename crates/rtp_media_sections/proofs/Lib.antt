pub mod Distincts
pub mod Entries
mod ExtmapLemmas
pub mod ListedRows
pub mod Lists
mod Named
pub mod Names
pub mod NarrowLines
pub mod NarrowRows
pub mod Printables
pub mod PrintedLines
pub mod Quiet
pub mod ReadBack
pub mod ReadRounds
pub mod ReadSources
pub mod RepairPairs
pub mod SameTexts
mod SectionNames
pub mod SizedRounds
pub mod Texts
pub mod WantedBack
