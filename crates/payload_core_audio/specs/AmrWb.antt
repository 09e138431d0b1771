-- AMR-WB payloads (RFC 4867 4.3 and 4.4).
use Rattle.std.specs.Prelude.{ℕ, zero, suc, ◌+◌, ◌-◌, ◌*◌, ◌/◌, ◌%◌, ◌^◌, ◌<◌, ◌≤◌, ◌==◌, Bool, true, false, List, []}
use Rattle.std.specs.Prelude.{◌∷◌, ◌++◌, map, length, nat_lt, nat_le, slice_index, Option, Some, None, Result, Ok}
use Rattle.std.specs.Prelude.{Err, if◌then◌else◌}
use Rattle.std.specs.List.{range_with_len}
use Rattle.payload_core_base.specs.Format.{Format, Fragment, Reading}
use Rattle.payload_core_base.specs.Law.{Coding}
use Rattle.payload_core_base.specs.Packing.{Packing, Sender, Sent}
use Rattle.payload_core_base.specs.declared.error.PacketError.{PacketError}
use Rattle.payload_core_base.specs.declared.error.PacketError.TheVariants.{ErrAmrWbCorruptedPacket}
use Rattle.payload_core_base.specs.declared.error.PacketError.TheVariants.{ErrPayloadTooLarge}
use Rattle.payload_core_base.specs.declared.extra.CodecExtra.{CodecExtra}
use Rattle.payload_core_base.specs.Stateless.{AnySender, no_marker, sent_as, stays_idle, unit_of_piece}

-- The bit of a text with this index, counted from the first byte's high bit.
abbrev pub bit_of : List ℕ → ℕ → ℕ
bit_of bytes i = slice_index bytes (i / 8) / 2 ^ (7 - i % 8) % 2

-- Byte k of a bit string, and its first bytes.
abbrev pub byte_from : (ℕ → ℕ) → ℕ → ℕ
byte_from bit k = bit (8 * k) * 128 + bit (8 * k + 1) * 64 + bit (8 * k + 2) * 32 + bit (8 * k + 3) * 16 + bit
    (8 * k + 4) * 8 + bit (8 * k + 5) * 4 + bit (8 * k + 6) * 2 + bit (8 * k + 7)

abbrev pub bytes_from : (ℕ → ℕ) → ℕ → List ℕ
bytes_from bit n = map (byte_from bit) (range_with_len 0 n)

-- `size` bits of a text from an offset on, followed by zeros.
abbrev pub field_of : List ℕ → ℕ → ℕ → ℕ → ℕ
field_of bytes place size i = if nat_lt i size then bit_of bytes (place + i) else 0

-- `size` speech bits from an offset on, padded to whole bytes.
unfoldable pub speech_of : List ℕ → ℕ → ℕ → List ℕ
speech_of bytes place size = bytes_from (field_of bytes place size) ((size + 7) / 8)

-- The table-of-contents entry at this bit offset, as the byte 0, FT(4), Q, 00 (RFC 4867 4.3.2 and 5.3).
unfoldable pub header_at : List ℕ → ℕ → ℕ
header_at bytes place = bit_of bytes (place + 1) * 64 + bit_of bytes (place + 2) * 32 + bit_of bytes (place + 3) * 16
    + bit_of bytes (place + 4) * 8 + bit_of bytes (place + 5) * 4

-- The number of speech bits of frame types 0 to 9 (3GPP TS 26.201).
abbrev pub speech_table : List ℕ
speech_table = 132 ∷ 177 ∷ 253 ∷ 285 ∷ 317 ∷ 365 ∷ 397 ∷ 461 ∷ 477 ∷ 40 ∷ []

-- Frame types 14 and 15 have none; 10 to 13 are reserved.
abbrev pub speech_bits : ℕ → Option ℕ
speech_bits ft = if nat_lt ft 10 then Some (slice_index speech_table ft) else (if nat_lt ft 14 then None else Some 0)

-- In octet-aligned mode the mode request, each entry and each frame's speech fill whole bytes; in bandwidth-efficient
-- mode they take 4 bits, 6 bits, and the exact number of speech bits.
abbrev pub head_size : Bool → ℕ
head_size octet_align = if octet_align then 8 else 4

abbrev pub entry_size : Bool → ℕ
entry_size octet_align = if octet_align then 8 else 6

abbrev pub field_size : Bool → ℕ → ℕ
field_size octet_align size = if octet_align then (size + 7) / 8 * 8 else size

-- The bit offset of frame k's entry.
abbrev pub entry_place : Bool → ℕ → ℕ
entry_place octet_align k = head_size octet_align + k * entry_size octet_align

-- The first of the n indices from k on that passes the test.
abbrev pub first_place : (ℕ → Bool) → ℕ → ℕ → Option ℕ
first_place p k zero = None
first_place p k (suc n) = if p k then Some k else first_place p (k + 1) n

-- The last entry is the first one whose F bit is clear, if all entries up to it fit in the packet.
abbrev pub entry_room : Bool → List ℕ → ℕ
entry_room octet_align bytes = (8 * length bytes - head_size octet_align) / entry_size octet_align

abbrev pub is_last_entry : Bool → List ℕ → ℕ → Bool
is_last_entry octet_align bytes k = bit_of bytes (entry_place octet_align k) == 0

unfoldable pub last_entry : Bool → List ℕ → Option ℕ
last_entry octet_align bytes = first_place (is_last_entry octet_align bytes) 0 (entry_room octet_align bytes)

-- Bytes in front of others, if there are others.
abbrev pub behind : List ℕ → Option (List ℕ) → Option (List ℕ)
behind bytes None = None
behind bytes (Some others) = Some (bytes ++ others)

-- A frame with this header and so many speech bits, then what follows its speech; a reserved frame type or a frame cut
-- short is a fault.
abbrev pub frame_then : Bool → List ℕ → ℕ → Option ℕ → ℕ → (ℕ → Option (List ℕ)) → Option (List ℕ)
frame_then octet_align bytes header None place others = None
frame_then octet_align bytes header (Some size) place others =
    if nat_le (place + field_size octet_align size) (8 * length bytes)
    then behind (header ∷ speech_of bytes place size) (others (place + field_size octet_align size)) else None

-- n frames, from the k-th on, whose speech starts at this offset: each gives its header and its speech.
abbrev pub frames_from : Bool → List ℕ → ℕ → ℕ → ℕ → Option (List ℕ)
frames_from octet_align bytes zero k place = Some []
frames_from octet_align bytes (suc n) k place =
    frame_then octet_align bytes (header_at bytes (entry_place octet_align k))
    (speech_bits (header_at bytes (entry_place octet_align k) / 8)) place
    (λ next. frames_from octet_align bytes n (k + 1) next)

-- The frames of a packet whose last entry is this one.
abbrev pub frames_up_to : Bool → List ℕ → Option ℕ → Option (List ℕ)
frames_up_to octet_align bytes None = None
frames_up_to octet_align bytes (Some last) =
    frames_from octet_align bytes (last + 1) 0 (entry_place octet_align (last + 1))

abbrev pub frames_of : Bool → List ℕ → Option (List ℕ)
frames_of octet_align bytes = frames_up_to octet_align bytes (last_entry octet_align bytes)

abbrev pub reading_of_frames : Option (List ℕ) → Fragment → CodecExtra → Result Reading PacketError
reading_of_frames None fragment extra = Err ErrAmrWbCorruptedPacket
reading_of_frames (Some bytes) fragment extra = Ok (record { written = bytes; extra = extra; fragment = fragment })

-- Every packet is a head and a tail.
abbrev pub amr_wb_format : Bool → Format
amr_wb_format octet_align = record {
  head = λ packet. true;
  tail = λ marker packet. true;
  read = λ fragment extra packet. reading_of_frames (frames_of octet_align packet) fragment extra;
}

-- The number of speech bits of a sample: its first byte gives the frame type, and it must have exactly as many bytes as
-- that type needs.
abbrev pub size_if : Option ℕ → ℕ → Option ℕ
size_if None count = None
size_if (Some size) count = if count == (size + 7) / 8 + 1 then Some size else None

abbrev pub sample_size : List ℕ → Option ℕ
sample_size sample = size_if (speech_bits (header_at sample 0 / 8)) (length sample)

-- The bits of a bandwidth-efficient packet: 1111, F clear, FT, Q, the speech bits, and zeros.
unfoldable pub efficient_bit : List ℕ → ℕ → ℕ → ℕ
efficient_bit sample size i =
    if nat_lt i 4 then 1 else (if i == 4 then 0
    else (if nat_lt i 10 then bit_of sample (i - 4)
    else (if nat_lt i (size + 10) then bit_of sample (i - 2) else 0)))

abbrev pub amr_wb_packet : Bool → List ℕ → ℕ → List ℕ
amr_wb_packet true sample size = 240 ∷ header_at sample 0 ∷ speech_of sample 8 size
amr_wb_packet false sample size = bytes_from (efficient_bit sample size) ((size + 17) / 8)

abbrev pub pack_sized : Bool → Sender → ℕ → List ℕ → Option ℕ → Result Sent PacketError
pack_sized octet_align sender limit sample None = Err ErrAmrWbCorruptedPacket
pack_sized octet_align sender limit sample (Some size) =
    if nat_lt limit (length (amr_wb_packet octet_align sample size)) then Err ErrPayloadTooLarge
    else sent_as sender (amr_wb_packet octet_align sample size ∷ [])

-- One packet; other faults of the sample are reported before the limit.
abbrev pub pack_amr_wb : Bool → Sender → ℕ → List ℕ → Result Sent PacketError
pack_amr_wb octet_align sender limit [] = sent_as sender []
pack_amr_wb octet_align sender limit (b ∷ bs) = pack_sized octet_align sender limit (b ∷ bs) (sample_size (b ∷ bs))

abbrev pub amr_wb_packing : Bool → Packing
amr_wb_packing octet_align = record { pack = pack_amr_wb octet_align; marks = no_marker }

-- The canonical form of a sample: its header, and its speech bits padded with zeros.
abbrev pub speech_unit : List ℕ → Option ℕ → List ℕ
speech_unit sample None = []
speech_unit sample (Some size) = header_at sample 0 ∷ speech_of sample 8 size

-- The sample has exactly the bytes of its frame type, and its packet doesn't exceed the limit.
abbrev pub IsSized : Bool → ℕ → List ℕ → Option ℕ → Type 0
IsSized octet_align limit sample None = ⊥
IsSized octet_align limit sample (Some size) = length (amr_wb_packet octet_align sample size) ≤ limit

abbrev pub amr_wb_coding : Bool → Coding
amr_wb_coding octet_align = record {
  packing = amr_wb_packing octet_align;
  format = amr_wb_format octet_align;
  IsReached = AnySender;
  IsWellFormed = λ limit sample. (0 < length sample) × IsSized octet_align limit sample (sample_size sample);
  units = λ sender limit sample. unit_of_piece (speech_unit sample (sample_size sample)) ∷ [];
  after = stays_idle;
}
