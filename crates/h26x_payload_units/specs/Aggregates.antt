-- Units in an aggregation packet, each preceded by a two-byte size, and by other bytes before the size if the format
-- has them (RFC 7798 4.4.2, RFC 9328 4.3.2).
use Rattle.std.specs.Prelude.{ℕ, zero, suc, ◌+◌, ◌*◌, ◌/◌, ◌%◌, List, [], ◌∷◌, ◌++◌, length, take, drop, nat_le}
use Rattle.std.specs.Prelude.{Option, Some, None, if◌then◌else◌}
use Rattle.h26x_payload_units.specs.declared.aggregates.AggregateFault.{AggregateFault}
use Rattle.h26x_payload_units.specs.declared.aggregates.AggregateFault.TheVariants.{CutShort, PastEnd}

-- A unit preceded by its size.
abbrev pub sized : List ℕ → List ℕ
sized unit = length unit / 256 ∷ length unit % 256 ∷ unit

-- Units preceded by their sizes, with these bytes before the first size and those before each later one.
abbrev pub in_aggregate : List ℕ → List ℕ → List (List ℕ) → List ℕ
in_aggregate first later [] = []
in_aggregate first later (u ∷ us) = first ++ (sized u ++ in_aggregate later later us)

-- The contents of an aggregation packet: its whole units, and the fault after them, if any.
pub record Aggregated : Type 0 where
  pub units : List (List ℕ)
  pub fault : Option AggregateFault

abbrev pub with_first : List ℕ → Aggregated → Aggregated
with_first unit others = record { units = unit ∷ others.units; fault = others.fault }

abbrev pub only_fault : Option AggregateFault → Aggregated
only_fault fault = record { units = []; fault = fault }

-- Reading at a size field: the unit of that size, then the rest. Fewer than two bytes are CutShort; a size past the end
-- is PastEnd.
abbrev pub from_size : (List ℕ → Aggregated) → List ℕ → Aggregated
from_size others [] = only_fault (Some CutShort)
from_size others (high ∷ []) = only_fault (Some CutShort)
from_size others (high ∷ low ∷ rest) =
    if nat_le (high * 256 + low) (length rest)
    then with_first (take (high * 256 + low) rest) (others (drop (high * 256 + low) rest))
    else only_fault (Some PastEnd)

-- At most this many units, with this many bytes before the first size and so many before each later one.
abbrev pub aggregated_within : ℕ → ℕ → ℕ → List ℕ → Aggregated
aggregated_within n lead later [] = only_fault None
aggregated_within zero lead later (b ∷ bs) = only_fault None
aggregated_within (suc n) lead later (b ∷ bs) =
    from_size (λ rest. aggregated_within n later later rest) (drop lead (b ∷ bs))

unfoldable pub aggregated : ℕ → ℕ → List ℕ → Aggregated
aggregated lead later body = aggregated_within (length body) lead later body
