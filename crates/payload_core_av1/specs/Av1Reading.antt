-- AV1 packets as they are read (RTP payload format for AV1, sections 4.4 and 4.5).
use Rattle.std.specs.Prelude.{ℕ, zero, suc, ◌-◌, ◌/◌, ◌%◌, ◌==◌, ◌||◌, Bool, true, false, not, List, [], ◌∷◌, ◌++◌}
use Rattle.std.specs.Prelude.{length, take, slice_index_or, Option, Some, None, Result, Ok, Err, if◌then◌else◌}
use Rattle.payload_core_base.specs.Bytes.{has_bit}
use Rattle.payload_core_base.specs.Format.{Format, Fragment, Reading}
use Rattle.payload_core_base.specs.declared.error.PacketError.{PacketError}
use Rattle.payload_core_base.specs.declared.error.PacketError.TheVariants.{ErrShortPacket, ErrAv1CorruptedPacket}
use Rattle.payload_core_base.specs.declared.extra.CodecExtra.{CodecExtra}
use Rattle.payload_core_base.specs.declared.extra.CodecExtra.TheVariants.{Av1}
use Rattle.payload_core_av1.specs.Leb128.{Cut, sized_part}
use Rattle.payload_core_av1.specs.Obus.{Obu, is_kept, whole_obu, with_its_size}

-- The aggregation header: Z, Y, W in two bits, N and three reserved bits.
abbrev pub has_z : ℕ → Bool
has_z first = has_bit 128 first

abbrev pub has_y : ℕ → Bool
has_y first = has_bit 64 first

abbrev pub count_w : ℕ → ℕ
count_w first = first / 16 % 4

abbrev pub has_n : ℕ → Bool
has_n first = has_bit 8 first

abbrev pub in_front : List ℕ → Option (List (List ℕ)) → Option (List (List ℕ))
in_front e None = None
in_front e (Some es) = Some (e ∷ es)

abbrev pub and_behind : Option Cut → (List ℕ → Option (List (List ℕ))) → Option (List (List ℕ))
and_behind None others = None
and_behind (Some cut) others = in_front cut.part (others cut.rest)

-- n elements with size fields, then the rest as the last element.
abbrev pub counted_elements : ℕ → List ℕ → Option (List (List ℕ))
counted_elements zero bytes = Some (bytes ∷ [])
counted_elements (suc n) bytes = and_behind (sized_part bytes) (λ rest. counted_elements n rest)

-- Elements with size fields up to the end, at most n.
abbrev pub sized_elements : ℕ → List ℕ → Option (List (List ℕ))
sized_elements n [] = Some []
sized_elements zero (b ∷ bs) = None
sized_elements (suc n) (b ∷ bs) = and_behind (sized_part (b ∷ bs)) (λ rest. sized_elements n rest)

-- W elements, the last one without a size field; with W = 0 any number, each with a size field.
abbrev pub elements_of : ℕ → List ℕ → Option (List (List ℕ))
elements_of w body = if w == 0 then sized_elements (length body) body else counted_elements (w - 1) body

-- What the first element does to the open fragment: the elements there are then, and the fragment that stays open.
pub record Begun : Type 0 where
  pub open_still : Fragment
  pub elements : List (List ℕ)

-- With Z, the first element continues the open fragment; it is dropped if no fragment is open, and has no effect if it
-- is empty. Without Z, an open fragment is dropped.
abbrev pub begun : Bool → Fragment → List (List ℕ) → Begun
begun false fragment elements = record { open_still = None; elements = elements }
begun true fragment [] = record { open_still = None; elements = [] }
begun true None (e ∷ es) = record { open_still = None; elements = es }
begun true (Some f) ([] ∷ es) = record { open_still = Some f; elements = es }
begun true (Some f) ((b ∷ bs) ∷ es) = record { open_still = None; elements = (f ++ (b ∷ bs)) ∷ es }

-- With Y the last element opens a fragment, unless it is empty.
abbrev pub complete : Bool → List (List ℕ) → List (List ℕ)
complete y es = if y then take (length es - 1) es else es

abbrev pub last_of : List (List ℕ) → List ℕ
last_of es = slice_index_or es (length es - 1) []

abbrev pub opened_by : Fragment → List ℕ → Fragment
opened_by open_still [] = open_still
opened_by open_still (b ∷ bs) = Some (b ∷ bs)

abbrev pub opened : Bool → Fragment → List (List ℕ) → Fragment
opened y open_still es = if y then opened_by open_still (last_of es) else open_still

-- What a complete element gives: its OBU with a size field, if that is kept.
abbrev pub given_by : Option Obu → Option (List ℕ)
given_by None = None
given_by (Some o) = Some (if is_kept o then with_its_size o else [])

-- An empty element gives nothing.
abbrev pub given : List ℕ → Option (List ℕ)
given [] = Some []
given (b ∷ bs) = given_by (whole_obu (b ∷ bs))

abbrev pub joined_option : Option (List ℕ) → Option (List ℕ) → Option (List ℕ)
joined_option None others = None
joined_option (Some bytes) None = None
joined_option (Some bytes) (Some others) = Some (bytes ++ others)

-- What complete elements give, one after the other.
abbrev pub all_given : List (List ℕ) → Option (List ℕ)
all_given [] = Some []
all_given (e ∷ es) = joined_option (given e) (all_given es)

-- Whether a packet of the unit had N.
abbrev pub was_keyframe : CodecExtra → Bool
was_keyframe (Av1 e) = e.is_keyframe
was_keyframe _ = false

abbrev pub reading_of : Option (List ℕ) → Bool → Fragment → Result Reading PacketError
reading_of None keyframe fragment = Err ErrAv1CorruptedPacket
reading_of (Some written) keyframe fragment =
    Ok (record { written = written; extra = Av1 (record { is_keyframe = keyframe }); fragment = fragment })

abbrev pub read_begun : Bool → Bool → Begun → Result Reading PacketError
read_begun y keyframe b = reading_of (all_given (complete y b.elements)) keyframe (opened y b.open_still b.elements)

abbrev pub read_elements : ℕ → Fragment → CodecExtra → Option (List (List ℕ)) → Result Reading PacketError
read_elements first fragment extra None = Err ErrAv1CorruptedPacket
read_elements first fragment extra (Some es) =
    read_begun (has_y first) (was_keyframe extra || has_n first) (begun (has_z first) fragment es)

-- A packet is an aggregation header and at least one more byte.
abbrev pub read_av1 : Fragment → CodecExtra → List ℕ → Result Reading PacketError
read_av1 fragment extra [] = Err ErrShortPacket
read_av1 fragment extra (first ∷ []) = Err ErrShortPacket
read_av1 fragment extra (first ∷ b ∷ bs) = read_elements first fragment extra (elements_of (count_w first) (b ∷ bs))

-- A packet without Z is a head; a packet with the marker bit is a tail.
abbrev pub is_av1_head : List ℕ → Bool
is_av1_head [] = false
is_av1_head (first ∷ rest) = not (has_z first)

-- Whether a packet has N, which marks the first packet of a coded video sequence.
abbrev pub is_av1_keyframe : List ℕ → Bool
is_av1_keyframe [] = false
is_av1_keyframe (first ∷ rest) = has_n first

abbrev pub av1_format : Format
av1_format = record { head = is_av1_head; tail = λ marker packet. marker; read = read_av1 }
