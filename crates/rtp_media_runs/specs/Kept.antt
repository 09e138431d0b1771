-- Units of H.264, H.265 and H.266 that survive two hops: what is kept of them, and which parameter sets are held back.
use Rattle.std.specs.Prelude.{◌≡◌, ℕ, zero, suc, true, List, [], ◌∷◌, Some, None}
use Rattle.h26x_payload_units.specs.Cut.{EndsInNoZero, IsUnit}
use Rattle.h26x_payload_units.specs.Departures.{EachUnit, Rules, Waiting, emptied, sets_in}
use Rattle.h26x_payload_units.specs.Departures.Role.{Leaves, Waits}
use Rattle.payload_core_base.specs.Packing.{Sender}

-- A unit that isn't dropped for its size and doesn't end in a zero byte, which would become part of the next start code
-- (ITU-T H.264 annex B).
pub record IsKept (rules : Rules) (limit : ℕ) (unit : List ℕ) : Type 0 where
  pub leaves : rules.role unit ≡ Leaves → rules.can_leave limit unit ≡ true
  pub end : EndsInNoZero unit

abbrev pub AreKept : Rules → ℕ → List (List ℕ) → Type 0
AreKept rules limit units = EachUnit (IsKept rules limit) units

-- Each parameter set is held in the slot of its kind, from slot k on.
abbrev pub AreInPlace : Rules → ℕ → Waiting → Type 0
AreInPlace rules k [] = Unit {0}
AreInPlace rules k (None ∷ ws) = AreInPlace rules (suc k) ws
AreInPlace rules k (Some set ∷ ws) = (rules.role set ≡ Waits k) × AreInPlace rules (suc k) ws

-- A parameter set that is a unit, can be sent, and doesn't end in a zero byte.
pub record IsSoundSet (IsSendable : List ℕ → Type 0) (set : List ℕ) : Type 0 where
  pub unit : IsUnit set
  pub sendable : IsSendable set
  pub end : EndsInNoZero set

-- The second sender holds back no parameter set if the first does: sets arrive together with the unit that made them
-- leave.
pub record HasNone (rules : Rules) (IsSendable : List ℕ → Type 0) (first second : Sender) : Type 0 where
  pub in_place : AreInPlace rules zero first.waiting
  pub sound : EachUnit (IsSoundSet IsSendable) (sets_in first.waiting)
  pub none : second.waiting ≡ emptied first.waiting
