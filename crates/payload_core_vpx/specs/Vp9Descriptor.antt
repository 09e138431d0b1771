-- The VP9 payload descriptor (RFC 9628 4.2), as it is read. A text that ends within the descriptor has nothing after
-- it.
use Rattle.std.specs.Prelude.{ℕ, zero, suc, ◌+◌, ◌*◌, ◌/◌, ◌%◌, ◌==◌, ◌&&◌, Bool, false, List, [], ◌∷◌, drop}
use Rattle.std.specs.Prelude.{slice_index, Option, Some, None, Result, Ok, Err, if◌then◌else◌}
use Rattle.payload_core_base.specs.Bytes.{has_bit}
use Rattle.payload_core_base.specs.Format.{Format, Fragment, Reading}
use Rattle.payload_core_base.specs.declared.error.PacketError.{PacketError}
use Rattle.payload_core_base.specs.declared.error.PacketError.TheVariants.{ErrShortPacket, ErrTooManyPDiff}
use Rattle.payload_core_base.specs.declared.error.PacketError.TheVariants.{ErrVP9CorruptedPacket}
use Rattle.payload_core_base.specs.declared.extra.CodecExtra.{CodecExtra}
use Rattle.payload_core_base.specs.declared.extra.CodecExtra.TheVariants.{Vp9}

-- The bits of the first byte, from the highest: I, P, L, F, B, E, V, Z.
abbrev pub has_i : ℕ → Bool
has_i first = has_bit 128 first

abbrev pub has_p : ℕ → Bool
has_p first = has_bit 64 first

abbrev pub has_l : ℕ → Bool
has_l first = has_bit 32 first

abbrev pub has_f : ℕ → Bool
has_f first = has_bit 16 first

abbrev pub has_b : ℕ → Bool
has_b first = has_bit 8 first

abbrev pub has_v : ℕ → Bool
has_v first = has_bit 2 first

-- I: a picture id, of 7 bits in one byte, or of 15 bits in two if the first has the M bit.
abbrev pub picture_id_size : ℕ → List ℕ → ℕ
picture_id_size first text = if has_i first then (if has_bit 128 (slice_index text 0) then 2 else 1) else 0

abbrev pub picture_id_of : ℕ → List ℕ → Option ℕ
picture_id_of first text =
    if has_i first then (if has_bit 128 (slice_index text 0)
    then Some (slice_index text 0 % 128 * 256 + slice_index text 1) else Some (slice_index text 0))
    else None

-- L: a byte of TID, U, SID and D, and one of TL0PICIDX unless F is set.
abbrev pub layers_size : ℕ → ℕ
layers_size first = if has_l first then (if has_f first then 1 else 2) else 0

-- The reference with this index (P_DIFF and N) has N set: another follows.
abbrev pub has_n : List ℕ → ℕ → Bool
has_n text k = has_bit 1 (slice_index text k)

-- P and F: one to three references; another follows each that has N.
abbrev pub references_size : ℕ → List ℕ → ℕ
references_size first text = if has_p first && has_f first
    then (if has_n text 0 then (if has_n text 1 then 3 else 2) else 1) else 0

-- The third reference has N.
abbrev pub lists_too_many : ℕ → List ℕ → Bool
lists_too_many first text = (references_size first text == 3) && has_n text 2

-- A picture of the group: a byte of TID, U, R and two reserved bits, then R references.
abbrev pub picture_size : ℕ → ℕ
picture_size byte = 1 + byte / 4 % 4

-- The bytes after n pictures.
abbrev pub behind_pictures : ℕ → List ℕ → List ℕ
behind_pictures zero text = text
behind_pictures (suc n) text = behind_pictures n (drop (picture_size (slice_index text 0)) text)

-- G: the count of the group's pictures, and the pictures.
abbrev pub behind_group : Bool → List ℕ → List ℕ
behind_group has_g text = if has_g then behind_pictures (slice_index text 0) (drop 1 text) else text

-- Y: width and height, two bytes each, of N_S + 1 layers.
abbrev pub sizes_size : ℕ → ℕ
sizes_size flags = if has_bit 16 flags then 4 * (flags / 32 + 1) else 0

-- V: the scalability structure: a byte of N_S, Y and G, then what these announce.
abbrev pub behind_structure : ℕ → List ℕ → List ℕ
behind_structure first text = if has_v first
    then behind_group (has_bit 8 (slice_index text 0)) (drop (1 + sizes_size (slice_index text 0)) text) else text

-- The bytes after the picture id and the layer indices.
abbrev pub references_of : ℕ → List ℕ → List ℕ
references_of first rest = drop (layers_size first) (drop (picture_id_size first rest) rest)

-- The bytes after the descriptor with this first byte.
abbrev pub payload_of : ℕ → List ℕ → List ℕ
payload_of first rest = behind_structure first
    (drop (references_size first (references_of first rest)) (references_of first rest))

-- A payload isn't empty.
abbrev pub reading_of : Fragment → Option ℕ → List ℕ → Result Reading PacketError
reading_of fragment id [] = Err ErrVP9CorruptedPacket
reading_of fragment id (b ∷ bs) = Ok (record
    { written = b ∷ bs; extra = Vp9 (record { picture_id = id }); fragment = fragment })

abbrev pub read_vp9 : Fragment → CodecExtra → List ℕ → Result Reading PacketError
read_vp9 fragment extra [] = Err ErrShortPacket
read_vp9 fragment extra (first ∷ rest) =
    if lists_too_many first (references_of first rest) then Err ErrTooManyPDiff
    else reading_of fragment (picture_id_of first rest) (payload_of first rest)

-- A packet with B is a head; a packet with the marker bit is a tail.
abbrev pub is_vp9_head : List ℕ → Bool
is_vp9_head [] = false
is_vp9_head (first ∷ rest) = has_b first

abbrev pub vp9_format : Format
vp9_format = record { head = is_vp9_head; tail = λ marker packet. marker; read = read_vp9 }
