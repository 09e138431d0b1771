-- H.265 and H.266 packets as they are read (RFC 7798 4.4, RFC 9328 4.3).
use Rattle.std.specs.Prelude.{ℕ, ◌&&◌, ◌||◌, Bool, true, false, List, [], ◌∷◌, length, drop, nat_le}
use Rattle.std.specs.Prelude.{nat_lt, Option, Some, None, Result, Ok, Err, if◌then◌else◌}
use Rattle.std.specs.List.{flat_map, list_any}
use Rattle.payload_core_base.specs.Format.{Format, Fragment, Reading}
use Rattle.payload_core_base.specs.declared.error.PacketError.{PacketError}
use Rattle.payload_core_base.specs.declared.error.PacketError.TheVariants.{ErrShortPacket, ErrH265CorruptedPacket}
use Rattle.payload_core_base.specs.declared.error.PacketError.TheVariants.{ErrH266CorruptedPacket, NaluTypeIsNotHandled}
use Rattle.payload_core_base.specs.declared.extra.CodecExtra.{CodecExtra}
use Rattle.payload_core_base.specs.declared.extra.CodecExtra.TheVariants as extras
use Rattle.h26x_payload_units.specs.declared.aggregates.AggregateFault.{AggregateFault}
use Rattle.h26x_payload_units.specs.declared.aggregates.AggregateFault.TheVariants.{CutShort, PastEnd}
use Rattle.h26x_payload_units.specs.Aggregates.{Aggregated, aggregated}
use Rattle.h26x_payload_units.specs.Fragments.{behind_code, open_after, put_behind, written_at}
use Rattle.h26x_payload_units.specs.declared.layout.Layout.{Layout}
use Rattle.h26x_payload_units.specs.declared.layout.Layout.TheVariants.{H265, H266}
use Rattle.h26x_payload_units.specs.declared.layout.PacketKind.{PacketKind}
use Rattle.h26x_payload_units.specs.declared.layout.PacketKind.TheVariants.{Single, Aggregate}
use Rattle.h26x_payload_units.specs.declared.layout.PacketKind.TheVariants.{Fragment as FragmentKind, Unhandled}
use Rattle.h26x_payload_units.specs.Headers.{fu_type, has_end, has_f, has_start, high_with, is_irap, kind_of}
use Rattle.h26x_payload_units.specs.Headers.{low_with, type_of, unit_type}
use Rattle.h26x_payload_units.specs.Numbers.{dond_size, donl_size}
use Rattle.h26x_payload_units.specs.Reading.{Given, begins_by, gives}

-- The units in an aggregation packet, after its header.
abbrev pub aggregated_in : Layout → Bool → List ℕ → Aggregated
aggregated_in l donl body = aggregated (donl_size donl) (dond_size l donl) body

-- A unit of a random access picture.
abbrev pub is_irap_unit : Layout → List ℕ → Bool
is_irap_unit l unit = is_irap l (unit_type l unit)

-- A fragment with S of such a unit, after its header.
abbrev pub starts_irap : Layout → List ℕ → Bool
starts_irap l [] = false
starts_irap l (fu ∷ part) = has_start fu && is_irap l (fu_type l fu)

abbrev pub shows_by : Layout → Bool → PacketKind → ℕ → List ℕ → Bool
shows_by l donl Single type body = is_irap l type
shows_by l donl Aggregate type body = list_any (is_irap_unit l) (aggregated_in l donl body).units
shows_by l donl FragmentKind type body = starts_irap l body
shows_by l donl Unhandled type body = false

-- Whether a packet with a complete header shows an IRAP unit: it is one, contains one, or starts one.
abbrev pub shows_irap : Layout → Bool → List ℕ → Bool
shows_irap l donl [] = false
shows_irap l donl (high ∷ []) = false
shows_irap l donl (high ∷ low ∷ body) = shows_by l donl (kind_of l high low) (type_of l high low) body

-- The error for a corrupted packet.
abbrev pub corrupted : Layout → PacketError
corrupted H265 = ErrH265CorruptedPacket
corrupted H266 = ErrH266CorruptedPacket

-- Whether an aggregation packet ends within a size field.
abbrev pub ends_short : Option AggregateFault → Bool
ends_short None = false
ends_short (Some CutShort) = true
ends_short (Some PastEnd) = false

-- A fragment without its FU header, or with S and without its number.
abbrev pub is_fragment_short : Bool → List ℕ → Bool
is_fragment_short donl [] = true
is_fragment_short donl (fu ∷ part) = nat_lt (length part) (donl_size (has_start fu && donl))

-- Whether a packet is cut short after its header: a single NAL unit with nothing after header and decoding order
-- number, or an incomplete aggregation packet or fragment.
abbrev pub is_cut_short : Layout → Bool → PacketKind → List ℕ → Bool
is_cut_short l donl Single body = nat_le (length body) (donl_size donl)
is_cut_short l donl Aggregate body = ends_short (aggregated_in l donl body).fault
is_cut_short l donl FragmentKind body = is_fragment_short donl body
is_cut_short l donl Unhandled body = false

-- An aggregation packet without a fault gives its units, each preceded by a start code.
abbrev pub given_units : Layout → Fragment → List (List ℕ) → Option AggregateFault → Result Given PacketError
given_units l fragment units None = gives (flat_map behind_code units) fragment
given_units l fragment units (Some fault) = Err (corrupted l)

-- A fragment's part of its unit.
abbrev pub part_in : Bool → ℕ → List ℕ → List ℕ
part_in donl fu part = drop (donl_size (has_start fu && donl)) part

-- The header of the unit that a fragment begins.
abbrev pub begun_by : Layout → ℕ → ℕ → ℕ → List ℕ
begun_by l high low fu = high_with l high (fu_type l fu) ∷ low_with l low (fu_type l fu) ∷ []

abbrev pub given_fragment : Layout → Bool → Fragment → ℕ → ℕ → List ℕ → Result Given PacketError
given_fragment l donl fragment high low [] = Err ErrShortPacket
given_fragment l donl fragment high low (fu ∷ part) =
    let after = put_behind (has_start fu) (begun_by l high low fu) (part_in donl fu part) fragment in
    gives (written_at (has_end fu) after) (open_after (has_end fu) after)

abbrev pub given_by : Layout → Bool → PacketKind → Fragment → ℕ → ℕ → List ℕ → Result Given PacketError
given_by l donl Single fragment high low body = gives (behind_code (high ∷ low ∷ drop (donl_size donl) body)) fragment
given_by l donl Aggregate fragment high low body =
    given_units l fragment (aggregated_in l donl body).units (aggregated_in l donl body).fault
given_by l donl FragmentKind fragment high low body = given_fragment l donl fragment high low body
given_by l donl Unhandled fragment high low body = Err (NaluTypeIsNotHandled (type_of l high low))

-- A packet is refused first if it is cut short, then if F is set, then for its contents.
abbrev pub given_from : Layout → Bool → PacketKind → Fragment → ℕ → ℕ → List ℕ → Result Given PacketError
given_from l donl kind fragment high low body =
    if is_cut_short l donl kind body then Err ErrShortPacket
    else (if has_f high then Err (corrupted l)
    else given_by l donl kind fragment high low body)

abbrev pub given : Layout → Bool → Fragment → List ℕ → Result Given PacketError
given l donl fragment [] = Err ErrShortPacket
given l donl fragment (high ∷ []) = Err ErrShortPacket
given l donl fragment (high ∷ low ∷ body) = given_from l donl (kind_of l high low) fragment high low body

-- What a unit's packets say: whether one of them showed an IRAP picture.
abbrev pub was_keyframe : Layout → CodecExtra → Bool
was_keyframe H265 (extras.H265 e) = e.is_keyframe
was_keyframe H266 (extras.H266 e) = e.is_keyframe
was_keyframe _ _ = false

abbrev pub extra_of : Layout → Bool → CodecExtra
extra_of H265 keyframe = extras.H265 (record { is_keyframe = keyframe })
extra_of H266 keyframe = extras.H266 (record { is_keyframe = keyframe })

abbrev pub extra_after : Layout → Bool → Result Given PacketError → Result Reading PacketError
extra_after l keyframe (Err e) = Err e
extra_after l keyframe (Ok g) = Ok (record
    { written = g.written; extra = extra_of l keyframe; fragment = g.fragment })

abbrev pub read_h265_h266 : Layout → Bool → Fragment → CodecExtra → List ℕ → Result Reading PacketError
read_h265_h266 l donl fragment extra packet = extra_after l (was_keyframe l extra || shows_irap l donl packet)
    (given l donl fragment packet)

-- A missing second byte counts as 0.
abbrev pub is_h265_h266_head : Layout → List ℕ → Bool
is_h265_h266_head l [] = true
is_h265_h266_head l (high ∷ []) = begins_by (kind_of l high 0) []
is_h265_h266_head l (high ∷ low ∷ body) = begins_by (kind_of l high low) body

abbrev pub h265_h266_format : Layout → Bool → Format
h265_h266_format l donl =
    record { head = is_h265_h266_head l; tail = λ marker packet. marker; read = read_h265_h266 l donl }
