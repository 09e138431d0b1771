-- Faults of a STAP-A: its units are each preceded by a size, with nothing in front of the size (RFC 6184 5.7.1).
use Rattle.std.specs.Prelude.{ℕ, ◌+◌, ◌*◌, List, ◌∷◌, length, drop, Option, option_map}
use Rattle.std.specs.List.{flat_map}
use Rattle.payload_core_base.specs.declared.error.PacketError.{PacketError}
use Rattle.payload_core_base.specs.declared.error.PacketError.TheVariants.{ErrShortPacket, StapASizeLargerThanBuffer}
use Rattle.h26x_payload_units.specs.declared.aggregates.AggregateFault.{AggregateFault}
use Rattle.h26x_payload_units.specs.declared.aggregates.AggregateFault.TheVariants.{CutShort, PastEnd}
use Rattle.h26x_payload_units.specs.Aggregates.{aggregated, sized}

-- What follows the last whole unit.
abbrev pub behind_units : List ℕ → List ℕ
behind_units body = drop (length (flat_map sized (aggregated 0 0 body).units)) body

-- The error for a fault: half a size field is a short packet; a size that is too large is reported with the number of
-- bytes left.
abbrev pub refusal_of : AggregateFault → List ℕ → PacketError
refusal_of CutShort behind = ErrShortPacket
refusal_of PastEnd (high ∷ low ∷ rest) = StapASizeLargerThanBuffer (high * 256 + low) (length rest)
refusal_of PastEnd behind = ErrShortPacket

abbrev pub stap_a_fault : List ℕ → Option PacketError
stap_a_fault body = option_map (λ fault. refusal_of fault (behind_units body)) (aggregated 0 0 body).fault
