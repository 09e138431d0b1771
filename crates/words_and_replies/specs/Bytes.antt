-- The bytes that a word stands for.
use Rattle.std.specs.Prelude.{ℕ, ◌==◌, ◌&&◌, ◌^◌, nat_lt, if◌then◌else◌, List, [], ◌∷◌, ◌++◌, length, codes, Option}
use Rattle.std.specs.Prelude.{None, Some}
use Rattle.std.specs.List.{slice_split, before_first, after_first, position_or_len, repeat}
use Rattle.std.specs.Result.{result_ok}
use Rattle.std.specs.Str.{all_ascii_digits, bytes_eq}
use Rattle.std.specs.Str.Parse.{digits_value}
use Rattle.hex.specs.Hex.{decode_of}

-- What precedes the first such character, or everything if there is none.
abbrev pub before_sign : ℕ → List ℕ → List ℕ
before_sign sign word = before_first (λ b. b == sign) word

-- What follows it, or nothing if there is none.
abbrev pub behind_sign : ℕ → List ℕ → List ℕ
behind_sign sign word = after_first (λ b. b == sign) word

-- What is between single plus signs.
abbrev pub plus_parts : List ℕ → List (List ℕ)
plus_parts word = slice_split (λ b. b == 43) word

-- The parts of the rest of a word; none once its last part has been read.
abbrev pub parts_in : Option (List ℕ) → List (List ℕ)
parts_in None = []
parts_in (Some rest) = plus_parts rest

-- A character in front of the rest: a star is dropped if nothing follows it.
abbrev pub before_left : ℕ → List ℕ → List ℕ
before_left b [] = if b == 42 then [] else b ∷ []
before_left b (c ∷ more) = b ∷ c ∷ more

-- The word without its trailing stars.
abbrev pub without_stars : List ℕ → List ℕ
without_stars [] = []
without_stars (b ∷ more) = before_left b (without_stars more)

-- The bytes of hexadecimal digits; a dash, or no digit, means none.
abbrev pub digits_bytes : List ℕ → Option (List ℕ)
digits_bytes digits =
    if length digits == 0 then Some []
    else if bytes_eq digits (codes "-") then Some []
    else result_ok (decode_of digits)

-- How often a part's digits are repeated: once, or the number after the colon.
abbrev pub count_word : List ℕ → List ℕ
count_word part =
    if nat_lt (position_or_len (λ b. b == 58) part) (length part) then behind_sign 58 part else codes "1"

-- The value of one or more decimal digits, if it is below 2^32.
abbrev pub count_of : List ℕ → Option ℕ
count_of word =
    if (nat_lt 0 (length word) && all_ascii_digits word) && nat_lt (digits_value 10 word) (2 ^ 32)
    then Some (digits_value 10 word)
    else None

infixl 10 ◌>>=◌
abbrev pub ◌>>=◌ : {A B : Type 0} → Option A → (A → Option B) → Option B
(Some x) >>= f = f x
None >>= f = None

-- The bytes of a part, DIGITS or DIGITS:COUNT.
abbrev pub part_bytes : List ℕ → Option (List ℕ)
part_bytes part = do
  count ← count_of (count_word part)
  once ← digits_bytes (before_sign 58 part)
  Some (repeat count once)

-- The bytes of all parts, if each part is valid.
abbrev pub joined_bytes : List (List ℕ) → Option (List ℕ)
joined_bytes [] = Some []
joined_bytes (part ∷ parts) = do
  bytes ← part_bytes part
  more ← joined_bytes parts
  Some (bytes ++ more)

-- The bytes of a word: parts joined by plus signs, then any number of stars.
abbrev pub bytes_of : List ℕ → Option (List ℕ)
bytes_of word = joined_bytes (plus_parts (without_stars word))
