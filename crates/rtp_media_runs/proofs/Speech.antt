-- Speech of AMR-WB that is sent again.
use Rattle.std.proofs.Common.{◌≡◌, ℕ, suc, ◌+◌, ◌-◌, ◌*◌, ◌/◌, ◌%◌, ◌^◌, ◌<◌, Bool, true, false, ltb, eqb}
use Rattle.std.proofs.Common.{List, [], ◌∷◌, length, get_or, Option, Some, None, if◌then◌else◌, refl, sym, ap, subst}
use Rattle.std.proofs.Common.{◌∙◌, arith}
use Rattle.std.proofs.lemmas.Bool.Decides.{nat_tests}
use Rattle.std.proofs.lemmas.List.FromFn.{length-map-range_with_len}
use Rattle.payload_core_base.specs.Packing.{Sender}
use Rattle.payload_core_audio.specs.AmrWb.{IsSized, amr_wb_coding, amr_wb_packet, bit_of, byte_from, bytes_from}
use Rattle.payload_core_audio.specs.AmrWb.{field_of, header_at, sample_size, size_if, speech_bits, speech_of}
use Rattle.payload_core_audio.specs.AmrWb.{speech_unit}
use Rattle.payload_core_base.specs.Stateless.{unit_of_piece}
use Rattle.payload_core_audio.proofs.AmrWbLemmas.{aligned_len, efficient_len}
use Rattle.payload_core_audio.proofs.AmrWbLaw.{bit_from, bit_small}
use Rattle.rtp_media_runs.specs.Again.{AnySample, ComesAgain, GivesAgain, IsSame}
use Rattle.rtp_media_runs.proofs.Whole.{from-one, one-sent, part-bytes}

field-small : (bytes : List ℕ) (place size i : ℕ) → field_of bytes place size i < 2
field-small bytes place size i = by_test (ltb i size)
  where
    by_test : (b : Bool) → (if b then bit_of bytes (place + i) else 0) < 2
    by_test true = bit_small bytes (place + i)
    by_test false = omega arith

speech-bit : (sample : List ℕ) (size i : ℕ) → i < size → bit_of (speech_of sample 8 size) i ≡ bit_of sample (8 + i)
unfolding speech_of
speech-bit sample size i lt =
    let within : i < 8 * ((size + 7) / 8) = omega arith in
    let yes : ltb i size ≡ true = grind (arith, nat_tests) in
    bit_from (field_of sample 8 size) ((size + 7) / 8) i within (field-small sample 8 size)
    ∙ ap (λ (b : Bool). if b then bit_of sample (8 + i) else 0) yes

behind-byte : (x : ℕ) (bytes : List ℕ) (i : ℕ) → bit_of (x ∷ bytes) (8 + i) ≡ bit_of bytes i
behind-byte x bytes i =
    let octet : (8 + i) / 8 ≡ suc (i / 8) = omega arith in
    let rest : (8 + i) % 8 ≡ i % 8 = omega arith in
    ap (λ n. get_or (x ∷ bytes) n 0 / 2 ^ (7 - (8 + i) % 8) % 2) octet
    ∙ ap (λ n. get_or bytes (i / 8) 0 / 2 ^ (7 - n) % 2) rest

-- the canonical speech has the speech bits of the sample
speech-again : (h : ℕ) (sample : List ℕ) (size : ℕ) → speech_of (h ∷ speech_of sample 8 size) 8 size
    ≡ speech_of sample 8 size
unfolding speech_of
speech-again h sample size = ap (λ (f : ℕ → ℕ). bytes_from f ((size + 7) / 8)) (λ t i. at i (ltb i size) refl t)
  where
    at : (i : ℕ) (less : Bool) → ltb i size ≡ less
        → (if less then bit_of (h ∷ speech_of sample 8 size) (8 + i) else 0)
        ≡ (if less then bit_of sample (8 + i) else 0)
    at i true e = behind-byte h (speech_of sample 8 size) i ∙ speech-bit sample size i (grind (arith, nat_tests))
    at i false e = refl

header-back : (a b c d e : ℕ) → a < 2 → b < 2 → c < 2 → d < 2 → e < 2 → let h : ℕ =
    a * 64 + b * 32 + c * 16 + d * 8 + e * 4 in
    h / 64 % 2 * 64 + h / 32 % 2 * 32 + h / 16 % 2 * 16 + h / 8 % 2 * 8 + h / 4 % 2 * 4 ≡ h
header-back a b c d e pa pb pc pd pe = omega arith

-- and its header
header-again : (sample rest : List ℕ) → header_at (header_at sample 0 ∷ rest) 0 ≡ header_at sample 0
unfolding header_at
header-again sample rest = header-back (bit_of sample 1) (bit_of sample 2) (bit_of sample 3) (bit_of sample 4)
    (bit_of sample 5) (bit_small sample 1) (bit_small sample 2) (bit_small sample 3) (bit_small sample 4)
    (bit_small sample 5)

-- the packet is as long
packet-size : (o : Bool) (x y : List ℕ) (size : ℕ) → length (amr_wb_packet o x size) ≡ length (amr_wb_packet o y size)
packet-size true x y size = aligned_len x size ∙ sym (aligned_len y size)
packet-size false x y size = efficient_len x size ∙ sym (efficient_len y size)

speech-len : (sample : List ℕ) (size : ℕ) → length (speech_of sample 8 size) ≡ (size + 7) / 8
unfolding speech_of
speech-len sample size = length-map-range_with_len (byte_from (field_of sample 8 size)) 0 ((size + 7) / 8)

-- how many speech bits a sample's frame type has
bits-of : (bits : Option ℕ) (count size : ℕ) → size_if bits count ≡ Some size → bits ≡ Some size
bits-of None count size e = cc
bits-of (Some n) count size e = within (eqb count ((n + 7) / 8 + 1)) e
  where
    within : (same : Bool) → (if same then Some n else None) ≡ Some size → Some n ≡ Some size
    within true e = e
    within false e = cc

sized : (count size : ℕ) → count ≡ (size + 7) / 8 + 1 → size_if (Some size) count ≡ Some size
sized count size is =
    let yes : eqb count ((size + 7) / 8 + 1) ≡ true = grind (arith, nat_tests) in
    ap (λ (b : Bool). if b then Some size else None) yes

module _ (o : Bool) (s : Sender) (limit : ℕ) (x : List ℕ) where
  by-size : (q : Option ℕ) → sample_size x ≡ q → IsSized o limit x q → ComesAgain (amr_wb_coding o) IsSame limit s s x
  by-size None e good = absurd good
  by-size (Some size) e good =
      let h : ℕ = header_at x 0 in
      let y : List ℕ = h ∷ speech_of x 8 size in
      let bits : speech_bits (h / 8) ≡ Some size = bits-of (speech_bits (h / 8)) (length x) size e in
      let own : sample_size y ≡ Some size =
      ap (λ n. size_if (speech_bits (n / 8)) (length y)) (header-again x (speech_of x 8 size))
      ∙ ap (λ q. size_if q (length y)) bits ∙ sized (length y) size (omega (arith, speech-len x size)) in
      let same : speech_unit y (sample_size y) ≡ y =
      ap (speech_unit y) own
      ∙ ap (λ n. n ∷ speech_of y 8 size) (header-again x (speech_of x 8 size))
      ∙ ap (λ t. h ∷ t) (speech-again h x size) in
      let fits : IsSized o limit y (Some size) = omega (arith, good, packet-size o y x size) in
      one-sent (amr_wb_coding o) s limit x y
      (part-bytes (unit_of_piece (speech_unit x (sample_size x)) ∷ []) y
      (ap (λ q. unit_of_piece (speech_unit x q) ∷ []) e))
      (omega arith, subst (IsSized o limit y) (sym own) fits)
      (part-bytes (unit_of_piece (speech_unit y (sample_size y)) ∷ []) y (ap (λ t. unit_of_piece t ∷ []) same)) refl

pub amr_wb-again : (o : Bool) → GivesAgain (amr_wb_coding o) IsSame AnySample
amr_wb-again o = from-one (amr_wb_coding o) AnySample
    (λ s limit x good. by-size o s limit x (sample_size x) refl good.1)
