-- Fragmented H.264 units over any packets (RFC 6184 5.8).
use Rattle.std.specs.Prelude.{◌≡◌, ℕ, Bool, true, false, List, [], ◌∷◌, ◌++◌, None, Ok}
use Rattle.payload_core_base.specs.Format.{Reading, Run, read_all}
use Rattle.payload_core_base.specs.declared.extra.CodecExtra.{CodecExtra}
use Rattle.h26x_payload_units.specs.declared.layout.PacketKind.{PacketKind}
use Rattle.h26x_payload_units.specs.declared.layout.PacketKind.TheVariants.{Fragment}
use Rattle.h26x_payload_units.specs.FragmentRuns.{FragmentView, WritesComplete}
use Rattle.h26x_payload_formats.specs.H264Headers.{begun_header, kind_of}
use Rattle.h26x_payload_formats.specs.H264Reading.{h264_format}
use Rattle.h26x_payload_units.specs.Reading.{ends_by, is_fragment_kind, starts_by}

abbrev pub is_fu_a : List ℕ → Bool
is_fu_a [] = false
is_fu_a (first ∷ body) = is_fragment_kind (kind_of first)

abbrev pub header_by : PacketKind → ℕ → List ℕ → List ℕ
header_by Fragment first (fu ∷ part) = begun_header first fu ∷ []
header_by _ first body = []

abbrev pub part_by : PacketKind → List ℕ → List ℕ
part_by Fragment (fu ∷ part) = part
part_by _ body = []

abbrev pub starts_unit : List ℕ → Bool
starts_unit [] = false
starts_unit (first ∷ body) = starts_by (kind_of first) body

abbrev pub ends_unit : List ℕ → Bool
ends_unit [] = false
ends_unit (first ∷ body) = ends_by (kind_of first) body

abbrev pub header_of : List ℕ → List ℕ
header_of [] = []
header_of (first ∷ body) = header_by (kind_of first) first body

abbrev pub part_of : List ℕ → List ℕ
part_of [] = []
part_of (first ∷ body) = part_by (kind_of first) body

-- S and E of an FU-A, the header of the unit that it begins, and its part. Other packets are no fragments.
abbrev pub h264_view : FragmentView
h264_view = record { starts = starts_unit; ends = ends_unit; header = header_of; part = part_of }

-- The result of reading these packets, with no fragment open before them.
abbrev pub run_of : List (List ℕ) → CodecExtra → Run
run_of ps extra = read_all h264_format None extra ps

-- After packets of which none was refused, an accepted FU-A outputs a unit (with its start code) if and only if it
-- completes that unit; otherwise it outputs nothing.
abbrev pub FragmentLaw : Type 0
FragmentLaw = (ps : List (List ℕ)) (last : List ℕ) (extra after : CodecExtra) (reading : Reading)
    → (run_of ps extra).fault ≡ None → is_fu_a last ≡ true
    → h264_format.read (run_of ps extra).fragment after last ≡ Ok reading
    → WritesComplete h264_view (ps ++ last ∷ []) reading.written
