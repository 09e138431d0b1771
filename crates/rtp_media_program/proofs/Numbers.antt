-- Numbers in decimal digits.
use Rattle.std.proofs.Common.{◌≡◌, ◌≢◌, ℕ, ◌^◌, ◌<◌, ◌≤◌, Bool, true, false, ◌&&◌, cond, List, length}
use Rattle.std.proofs.Common.{get_or, nat_lt, None, Some, Result, Ok, Err, refl, sym, ◌∙◌, ap, arith}
use Rattle.std.specs.Result.{result_ok, OkIff}
use Rattle.std.specs.Str.{all_ascii_digits}
use Rattle.std.specs.Str.Parse.{ParsesUnsigned, digits_value}
use Rattle.std.proofs.lemmas.Str.Parse.{IsNumeralModel, numerals_by_value, tells_all_ascii_digits, parse_plain}
use Rattle.std.proofs.lemmas.Bool.Decides.{nat_tests}
use Rattle.rtp_media_program.specs.Words.{number_below}

pub own : IsNumeralModel (λ ds. all_ascii_digits ds ≡ true) (digits_value 10)
own = numerals_by_value _ tells_all_ascii_digits

pub accepted : (digits : Bool) (len value limit : ℕ) → digits ≡ true → 0 < len → value < limit
    → cond ((nat_lt 0 len && digits) && nat_lt value limit) (Some value) None ≡ Some value
accepted digits len value limit d l v = grind (arith, nat_tests)

refused : (digits : Bool) (len value limit : ℕ) → ((digits ≡ true) × (0 < len) × (value < limit) → ⊥)
    → cond ((nat_lt 0 len && digits) && nat_lt value limit) (Some value) None ≡ None
refused digits len value limit fails = grind (arith, nat_tests)

by_parse : {E : Type 0} (bs : List ℕ) (r : Result ℕ E)
    → OkIff r ((all_ascii_digits bs ≡ true) × (0 < length bs) × (digits_value 10 bs < 2 ^ 64)) (digits_value 10 bs)
    → result_ok r ≡ number_below (2 ^ 64) bs
by_parse bs (Ok n) h = ap Some h.1 ∙ sym (accepted _ _ _ (2 ^ 64) h.0.0 h.0.1 h.0.2)
by_parse bs (Err e) h = sym (refused _ _ _ (2 ^ 64) h)

-- what `parse` makes of a word without a sign
pub number_below-parse : {E : Type 0} (bs : List ℕ) (r : Result ℕ E) → ParsesUnsigned 64 10 bs r → get_or bs 0 0 ≢ 43
    → result_ok r ≡ number_below (2 ^ 64) bs
number_below-parse bs r h plain = by_parse bs r (parse_plain own 64 bs r h plain)

pub and_false : (b : Bool) → (b && false) ≡ false
and_false true = refl
and_false false = refl

narrow : (b : Bool) (value limit wide : ℕ) → limit ≤ wide
    → cond (b && nat_lt value limit) (Some value) None
    ≡ cond (b && nat_lt value wide) (cond (nat_lt value limit) (Some value) None) None
narrow true value limit wide le = grind (arith, nat_tests)
narrow false value limit wide le = refl
