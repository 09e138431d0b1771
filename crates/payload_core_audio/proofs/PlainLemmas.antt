-- What makes payloads without a header keep the codec law.
use Rattle.std.proofs.Common.{◌≡◌, ℕ, zero, suc, ◌<◌, ◌≤◌, Bool, true, false, ltb, List, [], ◌∷◌, length, Err}
use Rattle.std.proofs.Common.{if◌then◌else◌, refl, sym, subst, arith, ap, ◌∙◌}
use mathlib.Core.Bool.{false≢true}
use Rattle.std.specs.List.{All}
use Rattle.std.proofs.lemmas.List.Elements.{All-cons, All-nil, All-weaker}
use Rattle.payload_core_base.specs.Law.{CodecLaw, IsSentAs, SendsUnits, AreWithin}
use Rattle.payload_core_base.specs.Packing.{Sender}
use Rattle.payload_core_base.specs.Pieces.{pieces}
use Rattle.payload_core_base.specs.declared.error.PacketError.TheVariants.{ErrPayloadTooLarge}
use Rattle.std.proofs.lemmas.Bool.Decides.{nat_tests}
use Rattle.payload_core_base.proofs.PieceLemmas.{pieces-none, pieces-within, pieces-step, pieces-empty}
use Rattle.std.proofs.lemmas.List.{take_all, drop_all}
use Rattle.payload_core_base.proofs.FrameLemmas.{IsWhole, whole-frames}
use Rattle.payload_core_audio.specs.Plain.{plain_format, pieces_packing, pieces_coding, noise_coding, noise_packing}
use Rattle.payload_core_audio.specs.Plain.{is_one_piece}
use Rattle.payload_core_base.specs.Stateless.{unit_of_piece, sent_as}

-- a sample that has a byte and fits the limit is its one piece
pub one_piece : (limit : ℕ) (sample : List ℕ) → is_one_piece limit sample ≡ true → pieces limit sample ≡ sample ∷ []
one_piece limit sample fits =
    let some : 0 < length sample = grind (arith, nat_tests, fits) in
    let short : length sample ≤ limit = grind (arith, nat_tests, fits) in
    pieces-step limit sample (omega arith) some
    ∙ (λ i. take_all limit sample short i ∷ pieces limit (drop_all limit sample short i))
    ∙ ap (λ (ps : List (List ℕ)). sample ∷ ps) (pieces-empty limit)

-- a packet with a byte is a unit
plain_whole : (p : List ℕ) → 0 < length p → IsWhole plain_format p (unit_of_piece p)
plain_whole [] lt = absurd (omega arith)
plain_whole (b ∷ bs) lt = record {
  head = refl;
  tail = λ marker. refl;
  gives = λ extra. record { some_part = omega arith; no_fault = refl; written = refl; closed = refl };
}

within : (limit : ℕ) (sample : List ℕ) → AreWithin limit (pieces limit sample)
within zero sample = let P : List (List ℕ) → Type 0 = AreWithin 0 in subst P (sym (pieces-none sample)) (All-nil _)
within (suc n) sample = pieces-within (suc n) (omega arith) sample

each_whole : (limit : ℕ) (sample : List ℕ) → All (λ p. IsWhole plain_format p (unit_of_piece p)) (pieces limit sample)
each_whole limit sample = All-weaker (λ (p : List ℕ). (0 < length p) × (length p ≤ limit))
    (λ (p : List ℕ). IsWhole plain_format p (unit_of_piece p)) (λ p fits. plain_whole p fits.0) (pieces limit sample)
    (within limit sample)

-- the pieces of a sample are its units
pub pieces_law : CodecLaw pieces_coding
pieces_law sender limit sample reached well_formed = record {
  reached = tt;
  within = within limit sample;
  frames = whole-frames pieces_packing plain_format unit_of_piece (pieces limit sample) (each_whole limit sample);
  leaves = refl;
}

-- the one packet of a sample that doesn't pass the limit is its unit
pub whole_sent : (sender : Sender) (limit : ℕ) (sample : List ℕ) → (0 < length sample) × (length sample ≤ limit)
    → IsSentAs noise_coding limit (record { packets = sample ∷ []; sender = sender }) (unit_of_piece sample ∷ []) sender
whole_sent sender limit sample well_formed = record {
  reached = tt;
  within = All-cons (λ (p : List ℕ). (0 < length p) × (length p ≤ limit)) sample [] well_formed (All-nil _);
  frames = whole-frames noise_packing plain_format unit_of_piece (sample ∷ [])
      (All-cons (λ (p : List ℕ). IsWhole plain_format p (unit_of_piece p)) sample []
      (plain_whole sample well_formed.0) (All-nil _));
  leaves = refl;
}

by_test : (sender : Sender) (limit : ℕ) (sample : List ℕ) (over : Bool) → over ≡ false → (0 < length sample)
    × (length sample ≤ limit) → SendsUnits noise_coding limit
    (if over then Err ErrPayloadTooLarge else sent_as sender (sample ∷ [])) (unit_of_piece sample ∷ []) sender
by_test sender limit sample true e well_formed = absurd (false≢true (sym e))
by_test sender limit sample false e well_formed = whole_sent sender limit sample well_formed

pub noise_law : CodecLaw noise_coding
noise_law sender limit [] reached well_formed = absurd (omega (arith, well_formed.0))
noise_law sender limit (b ∷ bs) reached well_formed =
    by_test sender limit (b ∷ bs) (ltb limit (length (b ∷ bs))) (grind (arith, nat_tests)) well_formed
