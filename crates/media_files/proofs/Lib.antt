pub mod EbmlLemmas
pub mod IvfLemmas
pub mod LawLemmas
pub mod MkvLemmas
pub mod OpusLemmas
pub mod RowLemmas
