pub mod FragmentLemmas
pub mod FrameLemmas
pub mod HexLemmas
pub mod PcapngLemmas
pub mod PieceLemmas
pub mod RunLemmas
pub mod TurnLemmas
pub mod UniqueLemmas
