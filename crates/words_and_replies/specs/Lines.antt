-- A line of commands: the words of it, and the answer to it.
use Rattle.std.specs.Prelude.{◌≡◌, ℕ, ◌==◌, nat_le, if◌then◌else◌, Bool, true, false, List, [], ◌∷◌, ◌++◌}
use Rattle.std.specs.Prelude.{length, take, codes, decimal, Option, None, Some, Result, Ok, Err, IfSome, ◌⊎◌}
use Rattle.std.specs.Fmt.{◌++?◌, AppendsText, debug_str}
use Rattle.hex.specs.Hex.{encode_lower}
use Rattle.words_and_replies.specs.Bytes.{before_sign, behind_sign, bytes_of}

-- The rest of a line still to be read, its answer so far, and whether anything was refused.
pub record LineState : Type 0 where
  pub rest : List ℕ
  pub answer : List ℕ
  pub is_refused : Bool

abbrev pub line_state : List ℕ → List ℕ → Bool → LineState
line_state rest answer is_refused = record { rest = rest; answer = answer; is_refused = is_refused }

-- A line of which no word has been read.
abbrev pub unread : List ℕ → LineState
unread whole = line_state whole [] false

-- The next word: what is before the first blank.
abbrev pub word_of : List ℕ → List ℕ
word_of rest = before_sign 32 rest

-- What follows the next word and its blank.
abbrev pub behind_word : List ℕ → List ℕ
behind_word rest = behind_sign 32 rest

-- The line after its next word.
abbrev pub passed : LineState → LineState
passed line = line_state (behind_word line.rest) line.answer line.is_refused

-- An empty line, or one that begins with a number sign.
abbrev pub is_comment : List ℕ → Bool
is_comment [] = true
is_comment (c ∷ more) = c == 35

-- The answer is the word `fault` and the reason, or nothing if memory for it ran out.
abbrev pub IsFault : Option (List ℕ) → List ℕ → Type 0
IsFault reason answer = IfSome (Some (codes "fault ") ++? reason) (λ text. (answer ≡ text) ⊎ (answer ≡ []))

-- A line with no earlier refusal is refused, for this reason.
abbrev pub IsRefusal : Option (List ℕ) → LineState → LineState → Type 0
IsRefusal reason old new = (new.is_refused ≡ true) × (new.rest ≡ old.rest) × IsFault reason new.answer

-- A refusal for this reason; a line keeps its first refusal.
abbrev pub Refuses : LineState → Option (List ℕ) → LineState → Type 0
Refuses old reason new =
    (old.is_refused ≡ false → IsRefusal reason old new) × (old.is_refused ≡ true → new ≡ old)

-- The text is appended to the answer, unless memory runs out.
abbrev pub IsAnswered : Option (List ℕ) → LineState → LineState → Type 0
IsAnswered text old new =
    ((new.is_refused ≡ false) × (new.rest ≡ old.rest) × AppendsText old.answer new.answer text)
    ⊎ IsRefusal (Some (codes "out of memory")) old new

-- An answer; a line that was refused keeps its refusal.
abbrev pub Answers : LineState → Option (List ℕ) → LineState → Type 0
Answers old text new =
    (old.is_refused ≡ false → IsAnswered text old new) × (old.is_refused ≡ true → new ≡ old)

-- A field: its name, then its value.
abbrev pub field_text : List ℕ → Option (List ℕ) → Option (List ℕ)
field_text name value = Some name ++? Some (codes "=") ++? value ++? Some (codes " ")

-- `yes` or `no`.
abbrev pub whether : Bool → List ℕ
whether is_so = if is_so then codes "yes" else codes "no"

-- Two digits a byte; a dash for no bytes; of more than 2,000 bytes the first three and the count.
abbrev pub bytes_text : List ℕ → List ℕ
bytes_text bytes =
    if length bytes == 0 then codes "-"
    else if nat_le (length bytes) 2000 then encode_lower bytes
    else encode_lower (take 3 bytes) ++ codes "..(" ++ decimal (length bytes) ++ codes ")"

-- The line's next word is missing.
abbrev pub Missing : LineState → LineState → Type 0
Missing old new = Refuses (passed old) (Some (codes "a word is missing")) new

-- The refusal of a word that names no value: it quotes the word as Rust's `{:?}` does.
abbrev pub no_such_value : List ℕ → Option (List ℕ)
no_such_value word = Some (codes "no such value ") ++? debug_str word

-- The value of a word, by a relation between texts and values; or the word is refused, and some value is used that no
-- answer shows.
abbrev pub Reads : {T E : Type 0} → (List ℕ → Result T E → Type 0) → (T → Type 0) → List ℕ → LineState → T → LineState
    → Type 0
Reads {T} {E} gives StandsForNone word old value new =
    (gives word (Ok value) × (new ≡ old))
    ⊎ ((e : E) × gives word (Err e) × StandsForNone value × Refuses old (no_such_value word) new)

-- The bytes of a word; or it is refused, or memory runs out.
abbrev pub ReadsBytes : List ℕ → LineState → List ℕ → LineState → Type 0
ReadsBytes word old bytes new =
    ((bytes_of word ≡ Some bytes) × (new ≡ old))
    ⊎ ((bytes_of word ≡ None) × (bytes ≡ []) × Refuses old (no_such_value word) new)
    ⊎ ((bytes ≡ []) × Refuses old (Some (codes "out of memory")) new)

-- The value is appended, unless memory runs out.
abbrev pub Kept : {T : Type 0} → List T → T → List T → LineState → LineState → Type 0
Kept before value after old new =
    ((after ≡ before ++ value ∷ []) × (new ≡ old))
    ⊎ ((after ≡ before) × Refuses old (Some (codes "out of memory")) new)
