-- The words of a line, and what each kind of word says.
use Rattle.std.specs.Prelude.{ℕ, ◌==◌, ◌&&◌, nat_lt, if◌then◌else◌, Bool, List, [], ◌∷◌, length, codes, Option, None}
use Rattle.std.specs.Prelude.{Some, ◌^◌}
use Rattle.std.specs.List.{slice_split}
use Rattle.std.specs.Option.{option_map}
use Rattle.std.specs.Result.{result_ok}
use Rattle.std.specs.Str.{all_ascii_digits, bytes_eq}
use Rattle.std.specs.Str.Parse.{digits_value}
use Rattle.hex.specs.Hex.{decode_of}
use Rattle.rtp_media_program.specs.declared.words.Letter.{Letter}
use Rattle.rtp_media_program.specs.declared.words.Letter.TheVariants.{A, B}

-- The words between single blanks; two blanks in a row, or one at either end, make an empty word.
abbrev pub words_of : List ℕ → List (List ℕ)
words_of line = slice_split (λ b. b == 32) line

-- Decimal digits only.
abbrev pub is_number : List ℕ → Bool
is_number word = nat_lt 0 (length word) && all_ascii_digits word

-- The number in decimal digits, with or without leading zeros, if it is below the limit.
abbrev pub number_below : ℕ → List ℕ → Option ℕ
number_below limit word =
    if is_number word && nat_lt (digits_value 10 word) limit then Some (digits_value 10 word)
    else None

-- The end that a letter names.
abbrev pub letter_of : List ℕ → Option Letter
letter_of word = if bytes_eq word (codes "a") then Some A else if bytes_eq word (codes "b") then Some B else None

-- Any word that isn't empty.
abbrev pub text_of : List ℕ → Option (List ℕ)
text_of word = if length word == 0 then None else Some word

-- The bytes of an even number of hexadecimal digits; a dash for none.
abbrev pub hex_of : List ℕ → Option (List ℕ)
hex_of word =
    if bytes_eq word (codes "-") then Some []
    else if length word == 0 then None
    else result_ok (decode_of word)

-- A dash for nothing, or what the word says.
abbrev pub dash_or : {A : Type 0} → (List ℕ → Option A) → List ℕ → Option (Option A)
dash_or read word = if bytes_eq word (codes "-") then Some None else option_map Some (read word)

infixl 10 ◌>>=◌
abbrev pub ◌>>=◌ : {A B : Type 0} → Option A → (A → Option B) → Option B
(Some x) >>= f = f x
None >>= f = None

-- What each word means, if each means something.
abbrev pub each_of : {A : Type 0} → (List ℕ → Option A) → List (List ℕ) → Option (List A)
each_of read [] = Some []
each_of read (word ∷ words) = do
  said ← read word
  more ← each_of read words
  Some (said ∷ more)

-- What is between single commas.
abbrev pub comma_parts : List ℕ → List (List ℕ)
comma_parts word = slice_split (λ b. b == 44) word

-- The parts of the rest of a word; none once its last part has been read.
abbrev pub parts_in : Option (List ℕ) → List (List ℕ)
parts_in None = []
parts_in (Some rest) = comma_parts rest

-- Numbers below 256, separated by single commas.
abbrev pub numbers_of : List ℕ → Option (List ℕ)
numbers_of word = each_of (number_below 256) (comma_parts word)

-- What follows these letters in a word that starts with them.
abbrev pub behind : List ℕ → List ℕ → Option (List ℕ)
behind [] word = Some word
behind (c ∷ letters) [] = None
behind (c ∷ letters) (b ∷ word) = if b == c then behind letters word else None

-- Nothing, or one word `mid=TEXT`.
abbrev pub mid_value : List (List ℕ) → Option (Option (List ℕ))
mid_value [] = Some None
mid_value (word ∷ []) = option_map Some (behind (codes "mid=") word)
mid_value (word ∷ next ∷ words) = None

-- Nothing, which means 4,096, or one word with the number.
abbrev pub held_value : List (List ℕ) → Option ℕ
held_value [] = Some 4096
held_value (word ∷ []) = number_below (2 ^ 64) word
held_value (word ∷ next ∷ words) = None

-- The words of the rest of a line; none once its last word has been read.
abbrev pub words_in : Option (List ℕ) → List (List ℕ)
words_in None = []
words_in (Some rest) = words_of rest

-- What the first word says, and the words after it.
abbrev pub first : {A : Type 0} → (List ℕ → Option A) → List (List ℕ) → Option (A × List (List ℕ))
first read [] = None
first read (word ∷ words) = option_map (λ said. (said, words)) (read word)

-- X, if no words are left.
abbrev pub ended : {A : Type 0} → List (List ℕ) → A → Option A
ended [] x = Some x
ended (word ∷ words) x = None
