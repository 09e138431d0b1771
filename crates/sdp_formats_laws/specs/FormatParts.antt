-- What the parts of an `a=fmtp` line give (RFC 8866 6.15).
use Rattle.std.specs.Prelude.{◌≡◌, ◌↔◌, ℕ, List, [], ◌∷◌, ◌++◌, Option, Some, None, filter_map, if◌then◌else◌}
use Rattle.std.specs.List.{last_or}
use Rattle.std.specs.Str.{trim}
use Rattle.sdp_formats_grammar.specs.Split.{IsJoined, Lacks, parts}
use Rattle.sdp_formats_values.specs.Keys.{is_name_of, key_name}
use Rattle.sdp_formats_values.specs.Numbers.{range_of}
use Rattle.sdp_formats_values.specs.declared.key.Key.{Key}
use Rattle.sdp_formats_rounds.specs.Members.{IsIn}
use Rattle.sdp_formats_laws.specs.RepeatedKeys.{lower}

-- The value that a part, split at equals signs, gives a key: the second piece, if the first is the key's name in any
-- ASCII case; blanks around both are dropped.
abbrev pub value_of_pieces : Key → List (List ℕ) → Option (List ℕ)
value_of_pieces key (name ∷ text ∷ others) = if is_name_of key (trim name) then Some (trim text) else None
value_of_pieces key _ = None

abbrev pub value_in : Key → List ℕ → Option (List ℕ)
value_in key part = value_of_pieces key (parts 61 part)

-- The range of telephone events, for a part without an equals sign (RFC 4733 2.4.1).
abbrev pub range_of_pieces : List (List ℕ) → Option ℕ
range_of_pieces (word ∷ []) = range_of (trim word)
range_of_pieces _ = None

abbrev pub range_in : List ℕ → Option ℕ
range_in part = range_of_pieces (parts 61 part)

-- The value given by the last part of a line (split at semicolons) that gives any.
abbrev pub last_given : {A : Type 0} → (List ℕ → Option A) → List ℕ → Option A
last_given given line = last_or None (filter_map given (parts 59 line))

-- The pieces are separated by the byte, which occurs in none of them.
abbrev pub PiecesAreJoined : Type 0
PiecesAreJoined = (byte : ℕ) (text : List ℕ) (pieces : List (List ℕ))
    → (pieces ≡ parts byte text) ↔ IsJoined byte pieces text

-- A part gives a key this value: what precedes its first equals sign is the key's name in any ASCII case, and what
-- follows up to the next one, or the end, is the value; blanks around both are dropped (RFC 4855 3).
abbrev pub IsValueOf : Key → List ℕ → List ℕ → Type 0
IsValueOf key part value = (name : List ℕ) × (text : List ℕ) × (others : List (List ℕ))
    × IsJoined 61 (name ∷ text ∷ others) part × (lower (trim name) ≡ key_name key) × (trim text ≡ value)

abbrev pub ValuesAreOfKeys : Type 0
ValuesAreOfKeys = (key : Key) (part value : List ℕ) → (value_in key part ≡ Some value) ↔ IsValueOf key part value

abbrev pub RangesStandAlone : Type 0
RangesStandAlone = (part : List ℕ) (event : ℕ)
    → (range_in part ≡ Some event) ↔ (Lacks 61 part × (range_of (trim part) ≡ Some event))

-- No part gives any.
abbrev pub GiveNone : {P A : Type 0} → (P → Option A) → List P → Type 0
GiveNone {P} given ps = (part : P) → IsIn part ps → given part ≡ None

-- A part gives it, and no later part gives any.
abbrev pub IsLastGiven : {P A : Type 0} → (P → Option A) → List P → A → Type 0
IsLastGiven {P} given ps x = (front : List P) × (part : P) × (back : List P)
    × (ps ≡ front ++ part ∷ back) × (given part ≡ Some x) × GiveNone given back

pub record IsLastOfLine {A : Type 0} (given : List ℕ → Option A) (line : List ℕ) : Type 0 where
  pub some : (x : A) → (last_given given line ≡ Some x) ↔ IsLastGiven given (parts 59 line) x
  pub none : (last_given given line ≡ None) ↔ GiveNone given (parts 59 line)

abbrev pub LastTextsAreLast : Type 0
LastTextsAreLast = (given : List ℕ → Option (List ℕ)) (line : List ℕ) → IsLastOfLine given line

abbrev pub LastNumbersAreLast : Type 0
LastNumbersAreLast = (given : List ℕ → Option ℕ) (line : List ℕ) → IsLastOfLine given line
