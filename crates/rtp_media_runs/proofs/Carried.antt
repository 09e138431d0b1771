-- A sample of each codec, and its unit.
use Rattle.std.proofs.Common.{arith, ◌≡◌, ◌≢◌, ℕ, ◌+◌, length, List}
use Rattle.std.proofs.Common.{[], ◌∷◌, ◌++◌, None, refl, ap, length-append}
use Rattle.h26x_payload_units.specs.Cut.{EndsInNoZero}
use Rattle.h26x_payload_units.specs.Units.{units_of}
use Rattle.payload_core_audio.specs.AmrWb.{efficient_bit, header_at, speech_of}
use Rattle.payload_core_av1.specs.Leb128.{size_in, spelling}
use Rattle.payload_core_base.specs.Pieces.{pieces}
use Rattle.payload_core_av1.specs.Obus.{Obu}
use Rattle.payload_core_av1.specs.Samples.{SampleLaw}
use Rattle.rtp_media_runs.specs.WellFormed.{PicturesAreCarried, SoundIsCarried}

empty-ends : EndsInNoZero []
empty-ends before e = absurd (omega (arith, ap length e, length-append before (0 ∷ [])))

one-ends : (a : ℕ) → a ≢ 0 → EndsInNoZero (a ∷ [])
one-ends a other [] e = other cc
one-ends a other (x ∷ before) e = let f : [] ≡ before ++ 0 ∷ [] = cc in empty-ends before f

ends-added : (a b : ℕ) (s : List ℕ) → EndsInNoZero (b ∷ s) → EndsInNoZero (a ∷ b ∷ s)
ends-added a b s ends [] e = cc
ends-added a b s ends (x ∷ before) e = let f : b ∷ s ≡ before ++ 0 ∷ [] = cc in ends before f

two-end : (a b : ℕ) → b ≢ 0 → EndsInNoZero (a ∷ b ∷ [])
two-end a b other = ends-added a b [] (one-ends b other)

three-end : (a b c : ℕ) → c ≢ 0 → EndsInNoZero (a ∷ b ∷ c ∷ [])
three-end a b c other = ends-added a b (c ∷ []) (two-end b c other)

pub sound : SoundIsCarried
unfolding pieces efficient_bit header_at speech_of
sound = record {
  opus = record { well_formed = omega arith; kept = tt; units = refl };
  pcmu = record { well_formed = omega arith; kept = tt; units = refl };
  pcma = record { well_formed = omega arith; kept = tt; units = refl };
  g722 = record { well_formed = omega arith; kept = tt; units = refl };
  noise = record { well_formed = (omega arith, omega arith); kept = tt; units = refl };
  amr_wb = record { well_formed = (omega arith, omega arith); kept = tt; units = refl };
  events = record { well_formed = (refl, omega arith); kept = tt; units = refl };
}

-- the two units of the temporal unit: its delimiter, and a frame
obus : List Obu
obus = record { header = 18; extension = None; payload = [] }
    ∷ record { header = 50; extension = None; payload = 170 ∷ 187 ∷ [] } ∷ []

pub pictures : SampleLaw → PicturesAreCarried
unfolding units_of size_in spelling obus
pictures law = record {
  vp8 = record { well_formed = omega arith; kept = tt; units = refl };
  vp9 = record { well_formed = omega arith; kept = tt; units = refl };
  av1 = record {
    well_formed = (omega arith, (obus, (law (18 ∷ 0 ∷ 50 ∷ 2 ∷ 170 ∷ 187 ∷ []) obus).1 refl));
    kept = tt;
    units = refl;
  };
  h264 = record {
    well_formed = ((omega arith, omega arith, omega arith), tt);
    kept = (record { leaves = λ leaves. refl; end = two-end 101 136 (omega arith) }, tt);
    units = refl;
  };
  h265 = record {
    well_formed = ((omega arith, omega arith, omega arith), tt);
    kept = (record { leaves = λ leaves. refl; end = three-end 38 1 175 (omega arith) }, tt);
    units = refl;
  };
  h266 = record {
    well_formed = ((omega arith, omega arith, omega arith), tt);
    kept = (record { leaves = λ leaves. refl; end = three-end 0 57 175 (omega arith) }, tt);
    units = refl;
  };
}
