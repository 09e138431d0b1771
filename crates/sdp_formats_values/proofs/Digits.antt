-- Numbers in digits.
use Rattle.std.proofs.Common.{◌≡◌, ◌≢◌, ◌==◌, Option, Bor, ℕ, ◌^◌, ◌<◌, Bool, true, false, ◌&&◌, cond, List, [], ◌∷◌}
use Rattle.std.proofs.Common.{length, nat_lt, None, Some, Result, Ok, Err, refl, sym, ◌∙◌, ap, arith}
use Rattle.std.specs.Char.{digit_value}
use Rattle.std.specs.Option.{MatchOption, option_copied}
use Rattle.std.specs.Result.{result_ok, OkIff}
use Rattle.std.specs.Str.Parse.{ParsesUnsigned, AllDigits, IsNumeral, digits_value, without_leading_plus}
use Rattle.std.proofs.lemmas.Bool.Decides.{nat_tests}
use Rattle.sdp_formats_values.specs.Numbers.{are_digits, numeral_below, behind}

tested : (digit radix : ℕ) (others : Bool) → digit < radix → others ≡ true → (nat_lt digit radix && others) ≡ true
tested digit radix others d o = grind (arith, nat_tests)

first_digit : (digit radix : ℕ) (others : Bool) → (nat_lt digit radix && others) ≡ true → digit < radix
first_digit digit radix others h = grind (arith, nat_tests)

other_digits : (digit : Bool) (others : Bool) → (digit && others) ≡ true → others ≡ true
other_digits true others h = h
other_digits false others h = cc h

all_digits-true : (radix : ℕ) (ds : List ℕ) → AllDigits radix ds → are_digits radix ds ≡ true
all_digits-true radix [] h = refl
all_digits-true radix (c ∷ cs) h =
    tested (digit_value c) radix (are_digits radix cs) h.0 (all_digits-true radix cs h.1)

all_digits-are : (radix : ℕ) (ds : List ℕ) → are_digits radix ds ≡ true → AllDigits radix ds
all_digits-are radix [] h = tt
all_digits-are radix (c ∷ cs) h = (
  first_digit (digit_value c) radix (are_digits radix cs) h,
  all_digits-are radix cs (other_digits (nat_lt (digit_value c) radix) (are_digits radix cs) h),
)

accepted : (digits : Bool) (len value limit : ℕ) → digits ≡ true → 0 < len → value < limit
    → cond (nat_lt 0 len && digits && nat_lt value limit) (Some value) None ≡ Some value
accepted digits len value limit d l v = grind (arith, nat_tests)

refused : (digits : Bool) (len value limit : ℕ) → ((digits ≡ true) → (0 < len) → (value < limit) → ⊥)
    → cond (nat_lt 0 len && digits && nat_lt value limit) (Some value) None ≡ None
refused true len value limit fails = grind (arith, nat_tests)
refused false len value limit fails = grind (arith, nat_tests)

by_digits : {E : Type 0} (k radix : ℕ) (ds : List ℕ) (r : Result ℕ E)
    → OkIff r (IsNumeral radix ds × (digits_value radix ds < 2 ^ k)) (digits_value radix ds)
    → result_ok r ≡ cond (nat_lt 0 (length ds) && are_digits radix ds && nat_lt (digits_value radix ds) (2 ^ k))
    (Some (digits_value radix ds)) None
by_digits k radix ds (Ok n) h =
    ap Some h.1 ∙ sym (accepted (are_digits radix ds) (length ds) (digits_value radix ds) (2 ^ k)
    (all_digits-true radix ds h.0.0.1) h.0.0.0 h.0.1)
by_digits k radix ds (Err e) h =
    sym (refused (are_digits radix ds) (length ds) (digits_value radix ds) (2 ^ k)
    (λ digits some fits. h ((some, all_digits-are radix ds digits), fits)))

-- what `parse` makes of a text
pub numeral_below-parse : {E : Type 0} (k radix : ℕ) (text : List ℕ) (r : Result ℕ E) → ParsesUnsigned k radix text r
    → result_ok r ≡ numeral_below (2 ^ k) radix text
numeral_below-parse k radix text r h = by_digits k radix (without_leading_plus text) r h

other_first : (byte b : ℕ) (bytes : List ℕ) → b ≢ byte → cond (b == byte) (Some bytes) None ≡ None
other_first byte b bytes h = grind (arith, nat_tests)

same_first : (byte : ℕ) (bytes : List ℕ) → cond (byte == byte) (Some bytes) None ≡ Some bytes
same_first byte bytes = grind (arith, nat_tests)

-- what is left if a first byte is taken off
pub behind-strips : (byte : ℕ) (text : List ℕ) (rest : Option (Bor (List ℕ)))
    → MatchOption rest ((bytes : List ℕ) → text ≢ byte ∷ bytes) (λ x. text ≡ byte ∷ x.now) → option_copied rest
    ≡ behind byte text
behind-strips byte text (Some x) h = rw h (sym (same_first byte x.now))
behind-strips byte [] None h = refl
behind-strips byte (b ∷ bytes) None h = sym
    (other_first byte b bytes (λ same. h bytes (ap (λ first. first ∷ bytes) same)))
