mod BlockLemmas
pub mod CutLemmas
pub mod LayoutLemmas
pub mod PlaceLemmas
pub mod SplitLemmas
pub mod UnitLemmas
pub mod AggregateLaw
pub mod AggregateLemmas
pub mod BundleLemmas
pub mod DepartureLemmas
pub mod FragmentLemmas
pub mod FragmentRunLemmas
pub mod NumberLemmas
pub mod ReadingLemmas
