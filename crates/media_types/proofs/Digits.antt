-- What is read where decimal digits write a number.
use Rattle.std.proofs.Common.{◌≡◌, ℕ, ◌<◌, Bool, true, false, cond, List, [], ◌∷◌, length, nat_lt, None, Some, Result}
use Rattle.std.proofs.Common.{Ok, Err, refl, sym, ap, ◌∙◌, arith}
use Rattle.std.specs.Prelude.{◌&&◌}
use Rattle.std.specs.Char.{digit_value}
use Rattle.std.specs.Result.{result_ok, OkIff}
use Rattle.std.specs.Str.Parse.{ParsesUnsigned, AllDigits, IsNumeral, digits_value, without_leading_plus}
use Rattle.std.proofs.lemmas.Bool.Decides.{nat_tests}
use Rattle.media_types.specs.Values.{all_digits, byte_written}

tested : (digit : ℕ) (others : Bool) → digit < 10 → others ≡ true → (nat_lt digit 10 && others) ≡ true
tested digit others d o = grind (arith, nat_tests)

first_digit : (digit : ℕ) (others : Bool) → (nat_lt digit 10 && others) ≡ true → digit < 10
first_digit digit others h = grind (arith, nat_tests)

other_digits : (digit others : Bool) → (digit && others) ≡ true → others ≡ true
other_digits true others h = h
other_digits false others h = cc h

all_digits-true : (ds : List ℕ) → AllDigits 10 ds → all_digits ds ≡ true
all_digits-true [] h = refl
all_digits-true (c ∷ cs) h = tested (digit_value c) (all_digits cs) h.0 (all_digits-true cs h.1)

all_digits-are : (ds : List ℕ) → all_digits ds ≡ true → AllDigits 10 ds
all_digits-are [] h = tt
all_digits-are (c ∷ cs) h = (
  first_digit (digit_value c) (all_digits cs) h,
  all_digits-are cs (other_digits (nat_lt (digit_value c) 10) (all_digits cs) h),
)

accepted : (digits : Bool) (len value : ℕ) → digits ≡ true → 0 < len → value < 256
    → cond (nat_lt 0 len && digits && nat_lt value 256) (Some value) None ≡ Some value
accepted digits len value d l v = grind (arith, nat_tests)

refused : (digits : Bool) (len value : ℕ) → ((digits ≡ true) → (0 < len) → (value < 256) → ⊥)
    → cond (nat_lt 0 len && digits && nat_lt value 256) (Some value) None ≡ None
refused true len value fails = grind (arith, nat_tests)
refused false len value fails = grind (arith, nat_tests)

by_digits : {E : Type 0} (ds : List ℕ) (r : Result ℕ E)
    → OkIff r (IsNumeral 10 ds × (digits_value 10 ds < 256)) (digits_value 10 ds)
    → result_ok r ≡ cond (nat_lt 0 (length ds) && all_digits ds && nat_lt (digits_value 10 ds) 256)
    (Some (digits_value 10 ds)) None
by_digits ds (Ok n) h = ap Some h.1 ∙ sym
    (accepted (all_digits ds) (length ds) (digits_value 10 ds) (all_digits-true ds h.0.0.1) h.0.0.0 h.0.1)
by_digits ds (Err e) h = sym (refused (all_digits ds) (length ds) (digits_value 10 ds)
    (λ digits some fits. h ((some, all_digits-are ds digits), fits)))

-- what `parse` makes of a text
pub byte_written-parse : {E : Type 0} (text : List ℕ) (r : Result ℕ E) → ParsesUnsigned 8 10 text r → result_ok r
    ≡ byte_written text
byte_written-parse text r h = by_digits (without_leading_plus text) r h
