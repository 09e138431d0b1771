-- The candidates of a text, each once.
use Rattle.std.specs.Prelude.{◌≡◌, ◌↔◌, List}
use Rattle.sdp_formats_data.specs.Candidates.{AreEachOnce}
use Rattle.sdp_formats_values.specs.declared.candidate.Candidate.{Candidate}
use Rattle.sdp_formats_laws.specs.EachOnce.{IsEachOnce}

-- Adding candidates one by one, skipping those already there, gives exactly the list's members, each once, in the order
-- of first occurrence.
abbrev pub AddedAreEachOnce : Type 0
AddedAreEachOnce = (all once : List Candidate) → AreEachOnce all once ↔ IsEachOnce all once

-- There is exactly one such list.
abbrev pub OneListIsEachOnce : Type 0
OneListIsEachOnce = (all : List Candidate) → (once : List Candidate) × IsEachOnce all once
    × ((other : List Candidate) → IsEachOnce all other → other ≡ once)
