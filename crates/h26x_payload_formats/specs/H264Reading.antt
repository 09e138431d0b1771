-- H.264 packets as they are read (RFC 6184 5.6, 5.7.1 and 5.8).
use Rattle.std.specs.Prelude.{ℕ, ◌==◌, ◌&&◌, ◌||◌, Bool, true, false, List, [], ◌∷◌, Option, Some, None}
use Rattle.std.specs.Prelude.{Result, Ok, Err}
use Rattle.std.specs.List.{flat_map, list_any}
use Rattle.payload_core_base.specs.Format.{Format, Fragment, Reading}
use Rattle.payload_core_base.specs.declared.error.PacketError.{PacketError}
use Rattle.payload_core_base.specs.declared.error.PacketError.TheVariants.{ErrShortPacket, NaluTypeIsNotHandled}
use Rattle.payload_core_base.specs.declared.extra.CodecExtra.{CodecExtra}
use Rattle.payload_core_base.specs.declared.extra.CodecExtra.TheVariants.{H264}
use Rattle.h26x_payload_units.specs.declared.layout.PacketKind.{PacketKind}
use Rattle.h26x_payload_units.specs.declared.layout.PacketKind.TheVariants.{Single, Aggregate}
use Rattle.h26x_payload_units.specs.declared.layout.PacketKind.TheVariants.{Fragment as FragmentKind, Unhandled}
use Rattle.h26x_payload_units.specs.Aggregates.{aggregated}
use Rattle.h26x_payload_units.specs.Fragments.{behind_code, open_after, put_behind, written_at}
use Rattle.h26x_payload_formats.specs.H264Headers.{begun_header, kind_of, type_of}
use Rattle.h26x_payload_units.specs.Headers.{has_end, has_start}
use Rattle.h26x_payload_formats.specs.StapA.{stap_a_fault}
use Rattle.h26x_payload_units.specs.Reading.{Given, begins_by, gives}

-- A unit of this type.
abbrev pub is_of_type : ℕ → List ℕ → Bool
is_of_type type [] = false
is_of_type type (header ∷ body) = type_of header == type

-- A fragment with the S bit of a unit of this type.
abbrev pub starts_type : ℕ → List ℕ → Bool
starts_type type [] = false
starts_type type (fu ∷ body) = has_start fu && (type_of fu == type)

abbrev pub shows_by : PacketKind → ℕ → ℕ → List ℕ → Bool
shows_by Single type first body = type_of first == type
shows_by Aggregate type first body = list_any (is_of_type type) (aggregated 0 0 body).units
shows_by FragmentKind type first body = starts_type type body
shows_by Unhandled type first body = false

-- Whether a packet shows a unit of this type: it is one, contains one, or starts one.
abbrev pub shows_type : ℕ → List ℕ → Bool
shows_type type [] = false
shows_type type (first ∷ body) = shows_by (kind_of first) type first body

-- An aggregation packet without a fault gives its units, each preceded by a start code.
abbrev pub given_units : Fragment → List (List ℕ) → Option PacketError → Result Given PacketError
given_units fragment units None = gives (flat_map behind_code units) fragment
given_units fragment units (Some fault) = Err fault

-- A fragment has an FU header.
abbrev pub given_fragment : Fragment → ℕ → List ℕ → Result Given PacketError
given_fragment fragment first [] = Err ErrShortPacket
given_fragment fragment first (fu ∷ body) =
    let after = put_behind (has_start fu) (begun_header first fu ∷ []) body fragment in
    gives (written_at (has_end fu) after) (open_after (has_end fu) after)

abbrev pub given_by : PacketKind → Fragment → ℕ → List ℕ → Result Given PacketError
given_by Single fragment first body = gives (behind_code (first ∷ body)) fragment
given_by Aggregate fragment first body = given_units fragment (aggregated 0 0 body).units (stap_a_fault body)
given_by FragmentKind fragment first body = given_fragment fragment first body
given_by Unhandled fragment first body = Err (NaluTypeIsNotHandled (type_of first))

abbrev pub given : Fragment → List ℕ → Result Given PacketError
given fragment [] = Err ErrShortPacket
given fragment (first ∷ body) = given_by (kind_of first) fragment first body

-- Whether a packet of the unit showed an IDR picture.
abbrev pub was_keyframe : CodecExtra → Bool
was_keyframe (H264 e) = e.is_keyframe
was_keyframe _ = false

abbrev pub extra_after : Bool → Result Given PacketError → Result Reading PacketError
extra_after keyframe (Err e) = Err e
extra_after keyframe (Ok g) = Ok (record
    { written = g.written; extra = H264 (record { is_keyframe = keyframe }); fragment = g.fragment })

abbrev pub read_h264 : Fragment → CodecExtra → List ℕ → Result Reading PacketError
read_h264 fragment extra packet = extra_after (was_keyframe extra || shows_type 5 packet) (given fragment packet)

abbrev pub is_h264_head : List ℕ → Bool
is_h264_head [] = true
is_h264_head (first ∷ body) = begins_by (kind_of first) body

abbrev pub h264_format : Format
h264_format = record { head = is_h264_head; tail = λ marker packet. marker; read = read_h264 }
