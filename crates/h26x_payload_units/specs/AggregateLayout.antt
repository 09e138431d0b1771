-- The layout of an aggregation packet: units, each preceded by its size, with this many bytes before the first size and
-- so many before each later one (RFC 7798 4.4.2, RFC 9328 4.3.2).
use Rattle.std.specs.Prelude.{◌≡◌, ◌↔◌, ℕ, ◌+◌, ◌*◌, ◌<◌, List, [], ◌∷◌, ◌++◌, length, Option, Some, None}
use Rattle.h26x_payload_units.specs.declared.aggregates.AggregateFault.{AggregateFault}
use Rattle.h26x_payload_units.specs.declared.aggregates.AggregateFault.TheVariants.{CutShort, PastEnd}
use Rattle.h26x_payload_units.specs.Aggregates.{aggregated}

-- The text is: these many lead bytes, a size (big-endian), a unit of that size, and this rest.
pub record IsSized (lead : ℕ) (text unit rest : List ℕ) : Type 0 where
  pub before : List ℕ
  pub high : ℕ
  pub low : ℕ
  pub laid_out : text ≡ before ++ (high ∷ low ∷ (unit ++ rest))
  pub lead_is : length before ≡ lead
  pub size_is : length unit ≡ high * 256 + low

-- The text is: these many lead bytes, a size, and fewer bytes than that size.
pub record PassesEnd (lead : ℕ) (text : List ℕ) : Type 0 where
  pub before : List ℕ
  pub high : ℕ
  pub low : ℕ
  pub rest : List ℕ
  pub laid_out : text ≡ before ++ (high ∷ low ∷ rest)
  pub lead_is : length before ≡ lead
  pub too_few : length rest < high * 256 + low

-- What follows the last whole unit: nothing; too few bytes for a size; or a size that exceeds the bytes left.
abbrev pub EndsSo : ℕ → List ℕ → Option AggregateFault → Type 0
EndsSo lead text None = text ≡ []
EndsSo lead text (Some CutShort) = (0 < length text) × (length text < lead + 2)
EndsSo lead text (Some PastEnd) = PassesEnd lead text

abbrev pub IsLaidOut : ℕ → ℕ → List ℕ → List (List ℕ) → Option AggregateFault → Type 0
IsLaidOut lead later text [] fault = EndsSo lead text fault
IsLaidOut lead later text (u ∷ us) fault =
    (rest : List ℕ) × (IsSized lead text u rest × IsLaidOut later later rest us fault)

-- Every text has exactly one such layout, and is read by it.
abbrev pub AggregateLaw : Type 0
AggregateLaw = (lead later : ℕ) (text : List ℕ) (units : List (List ℕ)) (fault : Option AggregateFault)
    → IsLaidOut lead later text units fault ↔ (aggregated lead later text ≡ record { units = units; fault = fault })
