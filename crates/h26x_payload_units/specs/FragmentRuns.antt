-- NAL units in the fragments of a sequence of packets (RFC 6184 5.8, RFC 7798 4.4.3, RFC 9328 4.3.3): a unit is
-- complete at an E fragment if no E fragment came since the latest S fragment.
use Rattle.std.specs.Prelude.{◌≡◌, ◌↔◌, ◌⊎◌, ℕ, Bool, true, false, List, [], ◌∷◌, ◌++◌, None}
use Rattle.std.specs.List.{flat_map}
use Rattle.payload_core_base.specs.Format.{Fragment}
use Rattle.h26x_payload_units.specs.Fragments.{behind_code, open_after, put_behind, written_at}

-- A format's view of fragments: whether a packet has S, whether it has E, the header of the unit that an S fragment
-- starts, and its part of a unit. A packet that is no fragment has neither bit and no part.
pub record FragmentView : Type 0 where
  pub starts : List ℕ → Bool
  pub ends : List ℕ → Bool
  pub header : List ℕ → List ℕ
  pub part : List ℕ → List ℕ

abbrev pub HaveNoStart : FragmentView → List (List ℕ) → Type 0
HaveNoStart view [] = Unit {0}
HaveNoStart view (p ∷ ps) = (view.starts p ≡ false) × HaveNoStart view ps

abbrev pub HaveNoEnd : FragmentView → List (List ℕ) → Type 0
HaveNoEnd view [] = Unit {0}
HaveNoEnd view (p ∷ ps) = (view.ends p ≡ false) × HaveNoEnd view ps

-- The last packet, and no other, has E.
abbrev pub LastAloneEnds : FragmentView → List (List ℕ) → Type 0
LastAloneEnds view [] = ⊥
LastAloneEnds view (p ∷ []) = view.ends p ≡ true
LastAloneEnds view (p ∷ q ∷ ps) = (view.ends p ≡ false) × LastAloneEnds view (q ∷ ps)

-- The unit: the header from the S fragment, then its part and those of the fragments after it.
abbrev pub unit_in : FragmentView → List ℕ → List (List ℕ) → List ℕ
unit_in view start later = view.header start ++ flat_map view.part (start ∷ later)

-- The last packet has E; from the latest S fragment on (which may be that packet) no other packet has E; and this is
-- the unit.
pub record CompletesUnit (view : FragmentView) (ps : List (List ℕ)) (unit : List ℕ) : Type 0 where
  pub before : List (List ℕ)
  pub start : List ℕ
  pub later : List (List ℕ)
  pub put_together : ps ≡ before ++ (start ∷ later)
  pub is_start : view.starts start ≡ true
  pub no_later_start : HaveNoStart view later
  pub last_alone_ends : LastAloneEnds view (start ∷ later)
  pub unit_is : unit ≡ unit_in view start later

-- From the latest S fragment on no packet has E; and this is the incomplete unit, with its start code.
pub record LeavesOpen (view : FragmentView) (ps : List (List ℕ)) (open_unit : List ℕ) : Type 0 where
  pub before : List (List ℕ)
  pub start : List ℕ
  pub later : List (List ℕ)
  pub put_together : ps ≡ before ++ (start ∷ later)
  pub is_start : view.starts start ≡ true
  pub no_later_start : HaveNoStart view later
  pub no_end : HaveNoEnd view (start ∷ later)
  pub unit_is : open_unit ≡ behind_code (unit_in view start later)

-- The open unit after a packet, after packets, and what a packet writes.
abbrev pub open_behind : FragmentView → List ℕ → Fragment → Fragment
open_behind view p fragment = open_after (view.ends p)
    (put_behind (view.starts p) (view.header p) (view.part p) fragment)

abbrev pub open_behind_all : FragmentView → List (List ℕ) → Fragment → Fragment
open_behind_all view [] fragment = fragment
open_behind_all view (p ∷ ps) fragment = open_behind_all view ps (open_behind view p fragment)

abbrev pub written_by : FragmentView → List ℕ → Fragment → List ℕ
written_by view p fragment = written_at (view.ends p)
    (put_behind (view.starts p) (view.header p) (view.part p) fragment)

-- The last packet outputs a unit (with its start code) if and only if it completes that unit; otherwise it outputs
-- nothing.
abbrev pub WritesComplete : FragmentView → List (List ℕ) → List ℕ → Type 0
WritesComplete view ps written = ((unit : List ℕ) → (written ≡ behind_code unit) ↔ CompletesUnit view ps unit)
    × ((written ≡ []) ⊎ ((unit : List ℕ) × (written ≡ behind_code unit)))

-- Every packet does so after any others, if no unit was open before them.
abbrev pub FragmentsLaw : Type 0
FragmentsLaw = (view : FragmentView) (ps : List (List ℕ)) (last : List ℕ)
    → WritesComplete view (ps ++ last ∷ []) (written_by view last (open_behind_all view ps None))
