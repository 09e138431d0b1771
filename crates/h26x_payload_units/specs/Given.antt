-- What units that are sent are to a receiver.
use Rattle.std.specs.Prelude.{◌≡◌, ℕ, List, [], ◌∷◌, map, None}
use Rattle.std.specs.List.{flat_map}
use Rattle.payload_core_base.specs.Format.{Run}
use Rattle.h26x_payload_units.specs.Fragments.{behind_code}

-- The units that are sent, each after a start code, are the parts of one unit, unless there are none.
abbrev pub unit_of : List (List ℕ) → List (List (List ℕ))
unit_of [] = []
unit_of (u ∷ us) = map behind_code (u ∷ us) ∷ []

-- The run had no fault, gave these units, each after a start code, and left no fragment open.
pub record GivesUnits (run : Run) (units : List (List ℕ)) : Type 0 where
  pub no_fault : run.fault ≡ None
  pub written : run.written ≡ flat_map behind_code units
  pub closed : run.fragment ≡ None
