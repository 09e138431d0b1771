-- What is printed reads back.
use Rattle.std.proofs.Common.{◌≡◌, ℕ, ◌^◌, ◌<◌, ◌≤◌, ◌==◌, false, List, [], ◌∷◌, length, Some, refl, ◌∙◌, ap, arith}
use Rattle.std.proofs.Common.{decimal}
use Rattle.std.specs.Result.{result_ok}
use Rattle.std.specs.Str.{bytes_eq}
use Rattle.std.proofs.lemmas.Fmt.{digits_decimal, digits_value-decimal, decimal_nonempty}
use Rattle.hex.specs.Hex.{IsBytes, encode_lower, lower_digits}
use Rattle.hex.proofs.HexLemmas.{decode_of-encode_lower, length-encode_with}
use Rattle.rtp_media_program.specs.Words.{number_below, hex_of}
use Rattle.rtp_media_program.specs.ReplyLines.{hex_text}
use Rattle.rtp_media_program.proofs.Numbers.{own, accepted, and_false}

pub number_below-decimal : (limit n : ℕ) → n < limit → limit ≤ 2 ^ 64 → number_below limit (decimal n) ≡ Some n
number_below-decimal limit n small wide =
    let fits : n < 2 ^ 64 = omega arith in
    let value = digits_value-decimal own n fits in
    accepted _ _ _ limit (digits_decimal own n fits) (decimal_nonempty n fits) (rw value small) ∙ ap Some value

-- a text of two bytes or more is no dash
long : (text : List ℕ) → 2 ≤ length text → (bytes_eq text (45 ∷ []) ≡ false) × ((length text == 0) ≡ false)
long [] h = absurd (omega arith)
long (a ∷ []) h = absurd (omega arith)
long (a ∷ b ∷ text) h = (and_false _, grind (arith))

pub hex_of-hex_text : (bytes : List ℕ) → IsBytes bytes → hex_of (hex_text bytes) ≡ Some bytes
hex_of-hex_text [] h = refl
hex_of-hex_text (byte ∷ bytes) h =
    let text = encode_lower (byte ∷ bytes) in
    let size = length-encode_with lower_digits (byte ∷ bytes) in
    let tests = long text (omega (arith, size)) in
    rw (tests.0, tests.1) (ap result_ok (decode_of-encode_lower (byte ∷ bytes) h))
