-- Numbers in decimal digits.
use Rattle.std.proofs.Common.{◌≡◌, ℕ, ◌^◌, ◌<◌, Bool, true, false, ◌&&◌, cond, List, [], ◌∷◌, length, nat_lt}
use Rattle.std.proofs.Common.{None, Some, Result, Ok, Err, refl, sym, ◌∙◌, ap, arith}
use Rattle.std.specs.Char.{digit_value}
use Rattle.std.specs.Option.{ok_or}
use Rattle.std.specs.Result.{result_ok}
use Rattle.std.specs.Str.Parse.{ParsesUnsigned, AllDigits, digits_value, without_leading_plus}
use Rattle.std.proofs.lemmas.Bool.Decides.{nat_tests}
use Rattle.sdp_formats_grammar.specs.declared.refusal.Refusal.TheVariants.{Unfit}
use Rattle.sdp_formats_grammar.specs.Numbers.{all_digits, number_below}
use Rattle.sdp_formats_grammar.specs.Refusals.{Gives}

tested : (digit : ℕ) (others : Bool) → digit < 10 → others ≡ true → (nat_lt digit 10 && others) ≡ true
tested digit others d o = grind (arith, nat_tests)

first_digit : (digit : ℕ) (others : Bool) → (nat_lt digit 10 && others) ≡ true → digit < 10
first_digit digit others h = grind (arith, nat_tests)

other_digits : (digit : Bool) (others : Bool) → (digit && others) ≡ true → others ≡ true
other_digits true others h = h
other_digits false others h = cc h

pub all_digits-true : (ds : List ℕ) → AllDigits 10 ds → all_digits ds ≡ true
all_digits-true [] h = refl
all_digits-true (c ∷ cs) h = tested (digit_value c) (all_digits cs) h.0 (all_digits-true cs h.1)

pub all_digits-are : (ds : List ℕ) → all_digits ds ≡ true → AllDigits 10 ds
all_digits-are [] h = tt
all_digits-are (c ∷ cs) h = (
  first_digit (digit_value c) (all_digits cs) h,
  all_digits-are cs (other_digits (nat_lt (digit_value c) 10) (all_digits cs) h),
)

pub accepted : (digits : Bool) (len value limit : ℕ) → digits ≡ true → 0 < len → value < limit
    → cond (nat_lt 0 len && digits && nat_lt value limit) (Some value) None ≡ Some value
accepted digits len value limit d l v = grind (arith, nat_tests)

refused : (digits : Bool) (len value limit : ℕ) → ((digits ≡ true) → (0 < len) → (value < limit) → ⊥)
    → cond (nat_lt 0 len && digits && nat_lt value limit) (Some value) None ≡ None
refused true len value limit fails = grind (arith, nat_tests)
refused false len value limit fails = grind (arith, nat_tests)

-- what `parse` makes of a text
pub number-gives : {E : Type 0} (k : ℕ) (text : List ℕ) (r : Result ℕ E) → ParsesUnsigned k 10 text r
    → Gives (ok_or (result_ok r) Unfit) (number_below (2 ^ k) text)
number-gives k text (Ok n) h =
    let ds = without_leading_plus text in
    accepted (all_digits ds) (length ds) (digits_value 10 ds) (2 ^ k) (all_digits-true ds h.0.0.1) h.0.0.0 h.0.1
    ∙ ap Some (sym h.1)
number-gives k text (Err e) h =
    let ds = without_leading_plus text in
    refused (all_digits ds) (length ds) (digits_value 10 ds) (2 ^ k)
    (λ digits some fits. h ((some, all_digits-are ds digits), fits))
