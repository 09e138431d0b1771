-- Payloads without a header: each packet is a piece of a sample.
use Rattle.std.specs.Prelude.{ℕ, ◌<◌, ◌≤◌, Bool, true, List, [], ◌∷◌, map, length, nat_lt, Result, Ok, Err}
use Rattle.std.specs.Prelude.{if◌then◌else◌, ◌&&◌, nat_le}
use Rattle.payload_core_base.specs.Format.{Format, Fragment, Reading}
use Rattle.payload_core_base.specs.Law.{Coding}
use Rattle.payload_core_base.specs.Packing.{Packing, Sender, Sent}
use Rattle.payload_core_base.specs.Pieces.{pieces}
use Rattle.payload_core_base.specs.Stateless.{AnySender, no_marker, sent_as, stays_idle, unit_of_piece}
use Rattle.payload_core_base.specs.declared.error.PacketError.{PacketError}
use Rattle.payload_core_base.specs.declared.error.PacketError.TheVariants.{ErrShortPacket, ErrPayloadTooLarge}
use Rattle.payload_core_base.specs.declared.extra.CodecExtra.{CodecExtra}

-- Opus, G.711 and G.722: pieces of at most the limit (RFC 7587 4.2, RFC 3551 4.5).
abbrev pub pieces_packing : Packing
pieces_packing = record { pack = λ sender limit sample. sent_as sender (pieces limit sample); marks = no_marker }

-- The sample isn't empty and fits the limit, so it is a single piece.
abbrev pub is_one_piece : ℕ → List ℕ → Bool
is_one_piece limit sample = nat_lt 0 (length sample) && nat_le (length sample) limit

-- The single packet of a sample that can't be cut; none for an empty sample; refused if it exceeds the limit.
abbrev pub pack_whole : Sender → ℕ → List ℕ → Result Sent PacketError
pack_whole sender limit [] = sent_as sender []
pack_whole sender limit (b ∷ bs) = if nat_lt limit (length (b ∷ bs)) then Err ErrPayloadTooLarge
    else sent_as sender ((b ∷ bs) ∷ [])

-- Comfort noise: the sample as it is (RFC 3389 4).
abbrev pub noise_packing : Packing
noise_packing = record { pack = pack_whole; marks = no_marker }

-- A nonempty packet is output unchanged.
abbrev pub read_plain : Fragment → CodecExtra → List ℕ → Result Reading PacketError
read_plain fragment extra [] = Err ErrShortPacket
read_plain fragment extra (b ∷ bs) = Ok (record { written = b ∷ bs; extra = extra; fragment = fragment })

-- Every packet is a head and a tail.
abbrev pub plain_format : Format
plain_format = record { head = λ packet. true; tail = λ marker packet. true; read = read_plain }

-- Opus, G.711 and G.722: every nonempty sample is well-formed, and its units are its pieces.
abbrev pub pieces_coding : Coding
pieces_coding = record {
  packing = pieces_packing;
  format = plain_format;
  IsReached = AnySender;
  IsWellFormed = λ limit sample. 0 < length sample;
  units = λ sender limit sample. map unit_of_piece (pieces limit sample);
  after = stays_idle;
}

-- Comfort noise: a nonempty sample within the limit is well-formed, and is its unit.
abbrev pub noise_coding : Coding
noise_coding = record {
  packing = noise_packing;
  format = plain_format;
  IsReached = AnySender;
  IsWellFormed = λ limit sample. (0 < length sample) × (length sample ≤ limit);
  units = λ sender limit sample. unit_of_piece sample ∷ [];
  after = stays_idle;
}
