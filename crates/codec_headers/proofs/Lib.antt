pub mod BitLemmas
pub mod LayerLemmas
pub mod NalLemmas
pub mod ScaleLemmas
