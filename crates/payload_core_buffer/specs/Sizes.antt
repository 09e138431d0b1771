-- How many bytes the payloads of packets have, and which packets stay within a limit of bytes.
use Rattle.std.specs.Prelude.{◌≡◌, ◌≤◌, ℕ, List, [], ◌∷◌, Option, Some, None, length, nat_le, unwrap_or}
use Rattle.std.specs.Prelude.{if◌then◌else◌}
use Rattle.std.specs.List.{sum_by}
use Rattle.payload_core_buffer.specs.Buffered.{Buffered, IsRising, packets_above, passed_to}
use Rattle.payload_core_buffer.specs.Packets.{Packet}

abbrev pub bytes_of : List Packet → ℕ
bytes_of ps = sum_by (λ p. length p.payload) ps

-- The packets with the highest numbers whose payloads have at most this many bytes together.
abbrev pub within : ℕ → List Packet → List Packet
within bytes [] = []
within bytes (p ∷ ps) = if nat_le (bytes_of (p ∷ ps)) bytes then p ∷ ps else within bytes ps

-- The highest number that isn't among them; None if all are.
abbrev pub excess : ℕ → List Packet → Option ℕ
excess bytes [] = None
excess bytes (p ∷ ps) =
    if nat_le (bytes_of (p ∷ ps)) bytes then None else Some (unwrap_or (excess bytes ps) p.meta.seq_no)

-- The buffer after it is done with the packets that aren't among them.
abbrev pub passed_if : {D : Type 0} → Option ℕ → Buffered D → Buffered D
passed_if None b = b
passed_if (Some number) b = passed_to number b

abbrev pub kept_within : {D : Type 0} → ℕ → Buffered D → Buffered D
kept_within bytes b = passed_if (excess bytes b.held) b

-- What stays has at most so many bytes; all stays if it has no more; and what stays is what lies above the excess.
abbrev pub FitsLaw : Type 0
FitsLaw = (bytes : ℕ) (ps : List Packet) → bytes_of (within bytes ps) ≤ bytes

abbrev pub AllLaw : Type 0
AllLaw = (bytes : ℕ) (ps : List Packet) → bytes_of ps ≤ bytes → (within bytes ps ≡ ps) × (excess bytes ps ≡ None)

abbrev pub ExcessLaw : Type 0
ExcessLaw = (bytes number : ℕ) (ps : List Packet) → IsRising ps → excess bytes ps ≡ Some number
    → packets_above number ps ≡ within bytes ps
