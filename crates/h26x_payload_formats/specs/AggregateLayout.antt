-- The layout of a STAP-A after its header: NAL units, each preceded by its size (RFC 6184 5.7.1).
use Rattle.std.specs.Prelude.{◌≡◌, ◌↔◌, ℕ, ◌+◌, ◌*◌, List, [], ◌∷◌, length, Option, Some, None}
use Rattle.payload_core_base.specs.declared.error.PacketError.{PacketError}
use Rattle.payload_core_base.specs.declared.error.PacketError.TheVariants.{ErrShortPacket, StapASizeLargerThanBuffer}
use Rattle.h26x_payload_units.specs.AggregateLayout.{IsSized, PassesEnd}
use Rattle.h26x_payload_units.specs.Aggregates.{aggregated}
use Rattle.h26x_payload_formats.specs.StapA.{stap_a_fault}

-- What follows the last whole unit: nothing; half a size field; or a size that exceeds the bytes left.
abbrev pub EndsSo : List ℕ → Option PacketError → Type 0
EndsSo text None = text ≡ []
EndsSo text (Some ErrShortPacket) = length text ≡ 1
EndsSo text (Some (StapASizeLargerThanBuffer size left)) =
    (is : PassesEnd 0 text) × ((size ≡ is.high * 256 + is.low) × (left ≡ length is.rest))
EndsSo text (Some _) = ⊥

abbrev pub IsLaidOut : List ℕ → List (List ℕ) → Option PacketError → Type 0
IsLaidOut text [] fault = EndsSo text fault
IsLaidOut text (u ∷ us) fault = (rest : List ℕ) × (IsSized 0 text u rest × IsLaidOut rest us fault)

-- Every text has exactly one such layout, and is read by it.
abbrev pub AggregateLaw : Type 0
AggregateLaw = (text : List ℕ) (units : List (List ℕ)) (fault : Option PacketError)
    → IsLaidOut text units fault ↔ (((aggregated 0 0 text).units ≡ units) × (stap_a_fault text ≡ fault))
