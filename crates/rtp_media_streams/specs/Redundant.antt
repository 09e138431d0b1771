-- RED payloads as a stream sends them and as they are unwrapped (RFC 2198).
use Rattle.std.specs.Prelude.{ℕ, ◌+◌, ◌-◌, ◌%◌, ◌==◌, nat_le, if◌then◌else◌, List, [], ◌∷◌, length, map, reverse}
use Rattle.std.specs.Prelude.{Option, Some, None, option_and_then}
use Rattle.payload_core_base.specs.Outgoing.{Outgoing, outgoing}
use Rattle.payload_core_audio.specs.Red.{Block, spelled}
use Rattle.payload_core_audio.specs.RedHistory.{Redundancy, keeping}
use Rattle.payload_core_audio.specs.RedReading.{Item, read_red}
use Rattle.payload_core_audio.specs.RedSending.{masked}
use Rattle.payload_core_audio.specs.RedWrapping.{levels}
use Rattle.rtp_media_streams.specs.declared.types.PayloadTypes.{PayloadTypes}

-- The first blocks that together fit in `room` bytes.
abbrev pub fitting : ℕ → List Block → List Block
fitting room [] = []
fitting room (b ∷ bs) = if nat_le (4 + length b.payload) room then b ∷ fitting (room - (4 + length b.payload)) bs
    else []

-- A payload with the older ones that the budget allows, oldest first.
abbrev pub behind_older : ℕ → ℕ → Redundancy → Outgoing → List ℕ
behind_older pt budget r o =
    spelled (map masked (reverse (fitting (budget - (length o.payload + 1)) (levels r.history r.distances o.time))))
    (pt % 128) o.payload

-- What is sent for a payload: it with older ones, or alone if even one extra byte would exceed the budget.
abbrev pub wrapped : ℕ → ℕ → Redundancy → Outgoing → List ℕ
wrapped pt budget r o = if nat_le (length o.payload + 1) budget then behind_older pt budget r o else o.payload

-- The payloads, each with older ones.
abbrev pub wraps : ℕ → ℕ → Redundancy → List Outgoing → List Outgoing
wraps pt budget r [] = []
wraps pt budget r (o ∷ os) =
    outgoing (wrapped pt budget r o) o.marker o.time o.values ∷ wraps pt budget (keeping r pt o.payload o.time) os

-- What is kept after them.
abbrev pub kept_after : ℕ → Redundancy → List Outgoing → Redundancy
kept_after pt r [] = r
kept_after pt r (o ∷ os) = kept_after pt (keeping r pt o.payload o.time) os

-- The bytes of the primary payload, if it has this type.
abbrev pub primary_of : ℕ → List Item → Option (List ℕ)
primary_of pt [] = None
primary_of pt (item ∷ items) = if item.primary then (if item.pt == pt then Some item.payload else None)
    else primary_of pt items

-- What a payload brings to a stream: itself; or, with the RED type, its primary payload, if that has the row's type.
abbrev pub unwrapped : PayloadTypes → ℕ → List ℕ → Option (List ℕ)
unwrapped types pt payload = if types.pt == pt then Some payload
    else option_and_then (primary_of types.pt) (read_red payload)
