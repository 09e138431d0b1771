-- Video units, concatenated.
use Rattle.std.specs.Prelude.{ℕ, List, ◌∷◌}
use Rattle.std.specs.List.{flat_map}
use Rattle.media_files.specs.declared.units.TimedUnit.{TimedUnit}

-- A unit and the time of its clock.
pub record Timed : Type 0 where
  pub time : ℕ
  pub bytes : List ℕ

abbrev pub timed : TimedUnit → Timed
timed u = record { time = u.time; bytes = u.bytes.now }

-- A temporal delimiter begins each temporal unit (AV1 bitstream specification 5.6, 7.5): its type is 2, its size is 0.
abbrev pub delimited : List ℕ → List ℕ
delimited unit = 0x12 ∷ (0 ∷ unit)

-- The low-overhead bitstream format (AV1 bitstream specification 5.2): unit after unit.
abbrev pub obu_stream_of : List (List ℕ) → List ℕ
obu_stream_of units = flat_map delimited units

-- The byte stream format (H.264, H.265 and H.266, Annex B) of units that each begin with a start code.
abbrev pub annex_b_of : List (List ℕ) → List ℕ
annex_b_of units = flat_map (λ u. u) units
