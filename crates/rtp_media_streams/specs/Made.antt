-- Datagrams of a sample's packets.
use Rattle.std.specs.Prelude.{◌≡◌, ℕ, ◌+◌, ◌*◌, ◌%◌, Bool, List, [], ◌∷◌, ◌++◌, drop, length, map, slice_index}
use Rattle.std.specs.Prelude.{Result, Ok, Err}
use Rattle.std.specs.Int.{w16, to_be_bytes}
use Rattle.payload_core_base.specs.Outgoing.{Outgoing}
use Rattle.payload_core_base.specs.Packing.{Packing, Sender, Sent}
use Rattle.payload_core_base.specs.Sending.{outgoing_from}
use Rattle.payload_core_base.specs.declared.error.PacketError.{PacketError}
use Rattle.payload_core_audio.specs.RedHistory.{Redundancy}
use Rattle.rtp_media_streams.specs.Redundant.{kept_after, wraps}
use Rattle.rtp_wire.specs.Layout.{bit}
use Rattle.rtp_wire.specs.declared.values.ExtensionValues.{ExtensionValues}
use Rattle.rtp_media_streams.specs.Sending.{stamped}
use Rattle.rtp_wire.specs.Header.{spelled}
use Rattle.rtp_media_streams.specs.declared.stamp.Stamp.{Stamp}

-- Bytes after a header of number 0 and without a marker, with another number and marker (RFC 3550 5.1).
abbrev pub numbered : ℕ → Bool → List ℕ → List ℕ
numbered number marker bytes =
    slice_index bytes 0 ∷ (128 * bit marker + slice_index bytes 1) ∷ to_be_bytes w16 (number % 65536) ++ drop 4 bytes

-- The bytes of the header of a number.
abbrev pub header_with : Stamp → ℕ → Bool → ℕ → ExtensionValues → List ℕ
header_with stamp number marker time values =
    spelled stamp.exts (stamped stamp.ssrc stamp.pt stamp.exts number marker time values)

-- The datagram of a number: the header, and after it the payload.
abbrev pub datagram_with : Stamp → ℕ → Outgoing → List ℕ
datagram_with stamp number o = header_with stamp number o.marker o.time o.values ++ o.payload

-- The datagrams of payloads, numbered consecutively.
abbrev pub datagrams_with : Stamp → ℕ → List Outgoing → List (List ℕ)
datagrams_with stamp number [] = []
datagrams_with stamp number (o ∷ os) = datagram_with stamp number o ∷ datagrams_with stamp (number + 1) os

-- The payloads of packets with these bytes in front of each.
abbrev pub without_prefix : List ℕ → List (List ℕ) → List (List ℕ)
without_prefix prefix packets = map (λ p. drop (length prefix) p) packets

-- The datagrams of an accepted sample with these packets, and the state of the packetizer after it.
abbrev pub IsMade : Stamp → ℕ → Packing → Result Sent PacketError → ℕ → ExtensionValues → List (List ℕ) → Sender →
    Type 0
IsMade stamp number packing (Ok sent) time values datagrams sender =
    (datagrams ≡ datagrams_with stamp number (outgoing_from packing sent.packets time values)) × (sender ≡ sent.sender)
IsMade stamp number packing (Err e) time values datagrams sender = ⊥

-- The same, each payload after the older ones that the budget allows (RFC 2198), and what is kept after them.
abbrev pub IsMadeRedundant : Stamp → ℕ → Packing → Result Sent PacketError → ℕ → ExtensionValues → ℕ → ℕ
    → Redundancy → Redundancy → List (List ℕ) → Sender → Type 0
IsMadeRedundant stamp number packing (Ok sent) time values pt budget old new datagrams sender =
    let os = outgoing_from packing sent.packets time values in
    (datagrams ≡ datagrams_with stamp number (wraps pt budget old os)) × (new ≡ kept_after pt old os)
    × (sender ≡ sent.sender)
IsMadeRedundant stamp number packing (Err e) time values pt budget old new datagrams sender = ⊥
