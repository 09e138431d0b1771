-- Fragmented H.265 and H.266 NAL units in any sequence of packets (RFC 7798 4.4.3, RFC 9328 4.3.3).
use Rattle.std.specs.Prelude.{◌≡◌, ℕ, Bool, true, false, List, [], ◌∷◌, ◌++◌, None, Ok}
use Rattle.payload_core_base.specs.Format.{Reading, Run, read_all}
use Rattle.payload_core_base.specs.declared.extra.CodecExtra.{CodecExtra}
use Rattle.h26x_payload_units.specs.declared.layout.Layout.{Layout}
use Rattle.h26x_payload_units.specs.declared.layout.PacketKind.{PacketKind}
use Rattle.h26x_payload_units.specs.declared.layout.PacketKind.TheVariants.{Fragment}
use Rattle.h26x_payload_units.specs.FragmentRuns.{FragmentView, WritesComplete}
use Rattle.h26x_payload_units.specs.Headers.{kind_of}
use Rattle.h26x_payload_formats.specs.Reading.{begun_by, h265_h266_format, part_in}
use Rattle.h26x_payload_units.specs.Reading.{ends_by, is_fragment_kind, starts_by}

abbrev pub is_fragment : Layout → List ℕ → Bool
is_fragment l [] = false
is_fragment l (high ∷ []) = is_fragment_kind (kind_of l high 0)
is_fragment l (high ∷ low ∷ body) = is_fragment_kind (kind_of l high low)

abbrev pub header_by : Layout → PacketKind → ℕ → ℕ → List ℕ → List ℕ
header_by l Fragment high low (fu ∷ part) = begun_by l high low fu
header_by l _ high low body = []

abbrev pub part_by : Bool → PacketKind → List ℕ → List ℕ
part_by donl Fragment (fu ∷ part) = part_in donl fu part
part_by donl _ body = []

abbrev pub starts_unit : Layout → List ℕ → Bool
starts_unit l [] = false
starts_unit l (high ∷ []) = false
starts_unit l (high ∷ low ∷ body) = starts_by (kind_of l high low) body

abbrev pub ends_unit : Layout → List ℕ → Bool
ends_unit l [] = false
ends_unit l (high ∷ []) = false
ends_unit l (high ∷ low ∷ body) = ends_by (kind_of l high low) body

abbrev pub header_of : Layout → List ℕ → List ℕ
header_of l [] = []
header_of l (high ∷ []) = []
header_of l (high ∷ low ∷ body) = header_by l (kind_of l high low) high low body

abbrev pub part_of : Layout → Bool → List ℕ → List ℕ
part_of l donl [] = []
part_of l donl (high ∷ []) = []
part_of l donl (high ∷ low ∷ body) = part_by donl (kind_of l high low) body

-- The S and E bits of a fragment, the header of the unit it starts, and its part of the unit. Other packets are not
-- fragments.
abbrev pub h265_h266_view : Layout → Bool → FragmentView
h265_h266_view l donl =
    record { starts = starts_unit l; ends = ends_unit l; header = header_of l; part = part_of l donl }

-- The result of reading these packets, with no fragment open before them.
abbrev pub run_of : Layout → Bool → List (List ℕ) → CodecExtra → Run
run_of l donl ps extra = read_all (h265_h266_format l donl) None extra ps

-- After packets of which none was refused, an accepted fragment outputs a unit (with its start code) if and only if it
-- completes that unit; otherwise it outputs nothing.
abbrev pub FragmentLaw : Type 0
FragmentLaw = (l : Layout) (donl : Bool) (ps : List (List ℕ)) (last : List ℕ) (extra after : CodecExtra)
    (reading : Reading)
    → (run_of l donl ps extra).fault ≡ None → is_fragment l last ≡ true
    → (h265_h266_format l donl).read (run_of l donl ps extra).fragment after last ≡ Ok reading
    → WritesComplete (h265_h266_view l donl) (ps ++ last ∷ []) reading.written
