-- What makes telephone events keep the codec law.
use Rattle.std.proofs.Common.{◌≡◌, ℕ, ◌<◌, ◌≤◌, Bool, true, false, ltb, List, [], ◌∷◌, length, Err, if◌then◌else◌}
use Rattle.std.proofs.Common.{refl, sym, arith}
use mathlib.Core.Bool.{false≢true}
use Rattle.std.proofs.lemmas.Bool.Decides.{nat_tests}
use Rattle.std.proofs.lemmas.List.Elements.{All-cons, All-nil}
use Rattle.payload_core_base.specs.Law.{CodecLaw, SendsUnits}
use Rattle.payload_core_base.specs.Packing.{Sender}
use Rattle.payload_core_base.specs.declared.error.PacketError.TheVariants.{ErrPayloadTooLarge}
use Rattle.payload_core_base.proofs.FrameLemmas.{IsWhole, whole-frames}
use Rattle.payload_core_base.specs.Stateless.{sent_as, unit_of_piece}
use Rattle.payload_core_audio.specs.Telephone.{telephone_coding, telephone_format, telephone_packing, first_report}

-- a report is a unit
report_whole : (rate event flags high low : ℕ) → let report : List ℕ = event ∷ flags ∷ high ∷ low ∷ [] in
    IsWhole (telephone_format rate) report (unit_of_piece (first_report report))
report_whole rate event flags high low = record {
  head = refl;
  tail = λ marker. refl;
  gives = λ extra. record { some_part = omega arith; no_fault = refl; written = refl; closed = refl };
}

by_test : (rate limit event flags high low : ℕ) (sender : Sender) (over : Bool) → over ≡ false → 4 ≤ limit
    → let report : List ℕ = event ∷ flags ∷ high ∷ low ∷ [] in
    SendsUnits (telephone_coding rate) limit (if over then Err ErrPayloadTooLarge else sent_as sender (report ∷ []))
    (unit_of_piece (first_report report) ∷ []) sender
by_test rate limit event flags high low sender true e fits = absurd (false≢true (sym e))
by_test rate limit event flags high low sender false e fits =
    let report : List ℕ = event ∷ flags ∷ high ∷ low ∷ [] in
    record {
      reached = tt;
      within = All-cons (λ (p : List ℕ). (0 < length p) × (length p ≤ limit)) report [] (omega arith, fits) (All-nil _);
      frames = whole-frames telephone_packing (telephone_format rate) (λ p. unit_of_piece (first_report p))
          (report ∷ []) (All-cons (λ (p : List ℕ). IsWhole (telephone_format rate) p
          (unit_of_piece (first_report p))) report [] (report_whole rate event flags high low) (All-nil _));
      leaves = refl;
    }

pub telephone_codec_law : (rate : ℕ) → CodecLaw (telephone_coding rate)
telephone_codec_law rate sender limit [] reached well_formed = absurd (omega (arith, well_formed.0))
telephone_codec_law rate sender limit (a ∷ []) reached well_formed = absurd (omega (arith, well_formed.0))
telephone_codec_law rate sender limit (a ∷ b ∷ []) reached well_formed = absurd (omega (arith, well_formed.0))
telephone_codec_law rate sender limit (a ∷ b ∷ c ∷ []) reached well_formed = absurd (omega (arith, well_formed.0))
telephone_codec_law rate sender limit (a ∷ b ∷ c ∷ d ∷ []) reached well_formed =
    by_test rate limit a b c d sender (ltb limit 4) (grind (arith, nat_tests, well_formed.1))
    (omega (arith, well_formed.1))
telephone_codec_law rate sender limit (a ∷ b ∷ c ∷ d ∷ x ∷ rest) reached well_formed =
    absurd (omega (arith, well_formed.0))
