-- Numbers in hexadecimal digits.
use Rattle.std.proofs.Common.{◌≡◌, ℕ, ◌^◌, ◌<◌, Bool, true, false, ◌&&◌, cond, List, [], ◌∷◌, length, nat_lt}
use Rattle.std.proofs.Common.{None, Some, Result, Ok, Err, refl, sym, ◌∙◌, ap, arith}
use Rattle.std.specs.Char.{digit_value}
use Rattle.std.specs.Option.{ok_or}
use Rattle.std.specs.Result.{result_ok}
use Rattle.std.specs.Str.Parse.{ParsesUnsigned, AllDigits, digits_value, without_leading_plus}
use Rattle.std.proofs.lemmas.Bool.Decides.{nat_tests}
use Rattle.sdp_formats_grammar.specs.declared.refusal.Refusal.TheVariants.{Unfit}
use Rattle.sdp_formats_values.specs.FromText.{all_hex, hex_number}
use Rattle.sdp_formats_grammar.specs.Refusals.{Gives}

tested : (digit : ℕ) (others : Bool) → digit < 16 → others ≡ true → (nat_lt digit 16 && others) ≡ true
tested digit others d o = grind (arith, nat_tests)

first_digit : (digit : ℕ) (others : Bool) → (nat_lt digit 16 && others) ≡ true → digit < 16
first_digit digit others h = grind (arith, nat_tests)

other_digits : (digit : Bool) (others : Bool) → (digit && others) ≡ true → others ≡ true
other_digits true others h = h
other_digits false others h = cc h

all_hex-true : (ds : List ℕ) → AllDigits 16 ds → all_hex ds ≡ true
all_hex-true [] h = refl
all_hex-true (c ∷ cs) h = tested (digit_value c) (all_hex cs) h.0 (all_hex-true cs h.1)

all_hex-are : (ds : List ℕ) → all_hex ds ≡ true → AllDigits 16 ds
all_hex-are [] h = tt
all_hex-are (c ∷ cs) h = (
  first_digit (digit_value c) (all_hex cs) h,
  all_hex-are cs (other_digits (nat_lt (digit_value c) 16) (all_hex cs) h),
)

accepted : (digits : Bool) (len value limit : ℕ) → digits ≡ true → 0 < len → value < limit
    → cond (nat_lt 0 len && digits && nat_lt value limit) (Some value) None ≡ Some value
accepted digits len value limit d l v = grind (arith, nat_tests)

refused : (digits : Bool) (len value limit : ℕ) → ((digits ≡ true) → (0 < len) → (value < limit) → ⊥)
    → cond (nat_lt 0 len && digits && nat_lt value limit) (Some value) None ≡ None
refused true len value limit fails = grind (arith, nat_tests)
refused false len value limit fails = grind (arith, nat_tests)

-- what `parse` makes of a text
pub hex_number-gives : {E : Type 0} (text : List ℕ) (r : Result ℕ E) → ParsesUnsigned 8 16 text r
    → Gives (ok_or (result_ok r) Unfit) (hex_number text)
hex_number-gives text (Ok n) h =
    let ds = without_leading_plus text in
    accepted (all_hex ds) (length ds) (digits_value 16 ds) (2 ^ 8) (all_hex-true ds h.0.0.1) h.0.0.0 h.0.1
    ∙ ap Some (sym h.1)
hex_number-gives text (Err e) h =
    let ds = without_leading_plus text in
    refused (all_hex ds) (length ds) (digits_value 16 ds) (2 ^ 8)
    (λ digits some fits. h ((some, all_hex-are ds digits), fits))
