-- Counts in decimal digits.
use Rattle.std.proofs.Common.{◌≡◌, ◌≢◌, ℕ, ◌^◌, ◌<◌, Bool, true, ◌&&◌, cond, List, length}
use Rattle.std.proofs.Common.{get_or, nat_lt, None, Some, Result, Ok, Err, sym, ◌∙◌, ap, arith}
use Rattle.std.specs.Result.{result_ok, OkIff}
use Rattle.std.specs.Str.{all_ascii_digits}
use Rattle.std.specs.Str.Parse.{ParsesUnsigned, digits_value}
use Rattle.std.proofs.lemmas.Str.Parse.{IsNumeralModel, numerals_by_value, tells_all_ascii_digits, parse_plain}
use Rattle.std.proofs.lemmas.Bool.Decides.{nat_tests}
use Rattle.words_and_replies.specs.Bytes.{count_of}

digits : IsNumeralModel (λ ds. all_ascii_digits ds ≡ true) (digits_value 10)
digits = numerals_by_value _ tells_all_ascii_digits

taken : (are_digits : Bool) (len value : ℕ) → are_digits ≡ true → 0 < len → value < 2 ^ 32
    → cond ((nat_lt 0 len && are_digits) && nat_lt value (2 ^ 32)) (Some value) None ≡ Some value
taken are_digits len value d l v = grind (arith, nat_tests)

refused : (are_digits : Bool) (len value : ℕ) → ((are_digits ≡ true) × (0 < len) × (value < 2 ^ 32) → ⊥)
    → cond ((nat_lt 0 len && are_digits) && nat_lt value (2 ^ 32)) (Some value) None ≡ None
refused are_digits len value fails = grind (arith, nat_tests)

as_counted : {E : Type 0} (word : List ℕ) (r : Result ℕ E)
    → OkIff r ((all_ascii_digits word ≡ true) × (0 < length word) × (digits_value 10 word < 2 ^ 32))
    (digits_value 10 word) → result_ok r ≡ count_of word
as_counted word (Ok n) h = ap Some h.1 ∙ sym (taken _ _ _ h.0.0 h.0.1 h.0.2)
as_counted word (Err e) h = sym (refused _ _ _ h)

-- what `parse` makes of a word without a sign
pub count_of-parse : {E : Type 0} (word : List ℕ) (r : Result ℕ E) → ParsesUnsigned 32 10 word r
    → get_or word 0 0 ≢ 43 → result_ok r ≡ count_of word
count_of-parse word r h plain = as_counted word r (parse_plain digits 32 word r h plain)
