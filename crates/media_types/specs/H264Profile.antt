-- The profiles of H.264, by profile_idc and profile_iop (RFC 6184 8.1, table 5).
use Rattle.std.specs.Prelude.{ℕ, ◌+◌, ◌/◌, ◌%◌, ◌^◌, ◌==◌, ◌&&◌, ◌||◌, Bool, true, List, [], ◌∷◌, codes, find, length}
use Rattle.std.specs.Prelude.{option_map, Option}
use Rattle.media_types.specs.declared.h264.H264Profile.{H264Profile}
use Rattle.media_types.specs.declared.h264.H264Profile.TheVariants.{ConstrainedBaseline, Baseline, Main}
use Rattle.media_types.specs.declared.h264.H264Profile.TheVariants.{High, ConstrainedHigh}
use Rattle.media_types.specs.declared.h264.H264Profile.TheVariants.{High444Predictive}

-- A row of the table: profile_idc, the binary digits of profile_iop from the top bit on (x: either), and the profile.
pub record Row : Type 0 where
  pub idc : ℕ
  pub digits : List ℕ
  pub profile : H264Profile

abbrev pub row : ℕ → List ℕ → H264Profile → Row
row idc digits profile = record { idc = idc; digits = digits; profile = profile }

abbrev pub rows : List Row
rows =
    row 0x42 (codes "x1xx0000") ConstrainedBaseline ∷
    row 0x4D (codes "1xxx0000") ConstrainedBaseline ∷
    row 0x58 (codes "11xx0000") ConstrainedBaseline ∷
    row 0x42 (codes "x0xx0000") Baseline ∷
    row 0x58 (codes "10xx0000") Baseline ∷
    row 0x4D (codes "0x0x0000") Main ∷
    row 0x64 (codes "00000000") High ∷
    row 0x64 (codes "00001100") ConstrainedHigh ∷
    row 0xF4 (codes "00000000") High444Predictive ∷
    []

-- The byte's low bits match these digits.
abbrev pub has_digits : List ℕ → ℕ → Bool
has_digits [] byte = true
has_digits (d ∷ ds) byte = ((d == 120) || (d == 48 + byte / 2 ^ length ds % 2)) && has_digits ds byte

abbrev pub is_of_row : ℕ → ℕ → Row → Bool
is_of_row idc iop r = (r.idc == idc) && has_digits r.digits iop

-- The profile of the row that the two bytes match.
abbrev pub profile_of : ℕ → ℕ → Option H264Profile
profile_of idc iop = option_map (λ r. r.profile) (find (is_of_row idc iop) rows)
