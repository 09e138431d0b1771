-- Numbers and modes in a format text.
use Rattle.std.specs.Prelude.{ℕ, ◌^◌, Bool, true, ◌&&◌, List, [], ◌∷◌, length, nat_lt, nat_le, ◌==◌, bit_or}
use Rattle.std.specs.Prelude.{option_and_then, Option, Some, None, if◌then◌else◌}
use Rattle.std.specs.Char.{digit_value}
use Rattle.std.specs.Str.{trim}
use Rattle.std.specs.Str.Parse.{without_leading_plus, digits_value}
use Rattle.sdp_formats_grammar.specs.Numbers.{has_digits_alone}
use Rattle.sdp_formats_grammar.specs.Split.{parts}

-- Whether each byte is a digit of the radix, in either case.
abbrev pub are_digits : ℕ → List ℕ → Bool
are_digits radix [] = true
are_digits radix (c ∷ cs) = nat_lt (digit_value c) radix && are_digits radix cs

-- The value of digits in this radix, with an optional leading plus, if it is below the limit.
abbrev pub numeral_below : ℕ → ℕ → List ℕ → Option ℕ
numeral_below limit radix text =
    if nat_lt 0 (length (without_leading_plus text)) && are_digits radix (without_leading_plus text)
    && nat_lt (digits_value radix (without_leading_plus text)) limit
    then Some (digits_value radix (without_leading_plus text))
    else None

-- The first that is there.
abbrev pub or_else : Option ℕ → Option ℕ → Option ℕ
or_else (Some n) other = Some n
or_else None other = other

-- A number up to a bound.
abbrev pub up_to : ℕ → Option ℕ → Option ℕ
up_to most (Some n) = if nat_le n most then Some n else None
up_to most None = None

-- H.264's profile-level-id: hexadecimal, or decimal if only that fits in 32 bits.
abbrev pub profile_level : List ℕ → Option ℕ
profile_level text = or_else (numeral_below (2 ^ 32) 16 text) (numeral_below (2 ^ 32) 10 text)

-- The mode set with one more mode (0 to 8), one bit each (RFC 4867 8.2).
abbrev pub with_mode : Option ℕ → ℕ → Option ℕ
with_mode None modes = None
with_mode (Some mode) modes = if nat_le mode 8 then Some (bit_or modes (2 ^ mode)) else None

-- The mode set with all of these; None if one isn't 0 to 8.
abbrev pub with_modes : List (List ℕ) → Option ℕ → Option ℕ
with_modes texts None = None
with_modes [] (Some modes) = Some modes
with_modes (text ∷ texts) (Some modes) = with_modes texts (with_mode (numeral_below (2 ^ 8) 10 (trim text)) modes)

-- The modes separated by commas, with optional blanks around each.
abbrev pub modes_of : List ℕ → Option ℕ
modes_of text = with_modes (parts 44 text) (Some 0)

-- What follows this first byte.
abbrev pub behind : ℕ → List ℕ → Option (List ℕ)
behind byte [] = None
behind byte (b ∷ bytes) = if b == byte then Some bytes else None

-- The last event of a range `0-X`, X in digits only (RFC 4733 2.4.1).
abbrev pub range_end : Option (List ℕ) → Option ℕ
range_end None = None
range_end (Some digits) = if has_digits_alone digits then numeral_below (2 ^ 8) 10 digits else None

abbrev pub range_of : List ℕ → Option ℕ
range_of text = range_end (option_and_then (behind 45) (behind 48 text))
