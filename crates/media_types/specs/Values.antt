-- Numbers as SDP writes them.
use Rattle.std.specs.Prelude.{ℕ, Bool, true, ◌&&◌, List, [], ◌∷◌, length, nat_lt, Option, Some, None, if◌then◌else◌}
use Rattle.std.specs.Char.{digit_value}
use Rattle.std.specs.Str.Parse.{without_leading_plus, digits_value}

abbrev pub all_digits : List ℕ → Bool
all_digits [] = true
all_digits (c ∷ cs) = nat_lt (digit_value c) 10 && all_digits cs

-- The 8-bit number that decimal digits write, with an optional leading plus.
abbrev pub byte_written : List ℕ → Option ℕ
byte_written text =
    if nat_lt 0 (length (without_leading_plus text)) && all_digits (without_leading_plus text)
    && nat_lt (digits_value 10 (without_leading_plus text)) 256
    then Some (digits_value 10 (without_leading_plus text))
    else None

-- The number that a value writes; another one if no value is given.
abbrev pub given_or : ℕ → Option (List ℕ) → Option ℕ
given_or absent None = Some absent
given_or absent (Some text) = byte_written text
