pub mod FrameLemmas
pub mod PieceLemmas
pub mod PrefixLemmas
pub mod SendingLemmas
pub mod TelephoneLemmas
pub mod Texts
