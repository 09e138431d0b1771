-- A set of the sources in a list.
use Rattle.std.specs.Prelude.{◌≡◌, ℕ, List}
use Rattle.std.specs.BTreeSet.{BTreeSet, contains}
use Rattle.std.specs.Ordering.{nat_cmp}
use Rattle.sdp_formats_data.specs.Distinct.{is_among}

-- The set has these sources and no others.
abbrev pub AreSeen : BTreeSet ℕ → List ℕ → Type 0
AreSeen seen sources = (source : ℕ) → contains nat_cmp seen source ≡ is_among source sources
