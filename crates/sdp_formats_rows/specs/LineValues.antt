-- What the parts of a line give (RFC 8866 6.15): a key and its value up to a second equals sign; blanks around both are
-- dropped.
use Rattle.std.specs.Prelude.{Bool, false, List, [], ◌∷◌, ℕ, Option, None, Some, if◌then◌else◌}
use Rattle.std.specs.Str.{bytes_eq, trim}
use Rattle.sdp_formats_values.specs.declared.key.Key.{Key}
use Rattle.sdp_formats_values.specs.Keys.{key_name, key_named, is_level_key}
use Rattle.sdp_formats_grammar.specs.Split.{parts}

-- Whether a part gives a tier or level.
abbrev pub has_level : Option Key → Bool
has_level None = false
has_level (Some key) = is_level_key key

abbrev pub fields_give_level : List (List ℕ) → Bool
fields_give_level [] = false
fields_give_level (word ∷ []) = false
fields_give_level (key ∷ value ∷ others) = has_level (key_named (trim key))

abbrev pub gives_level : List ℕ → Bool
gives_level part = fields_give_level (parts 61 part)

-- The last value of a key, blanks round it dropped.
abbrev pub is_key : Key → Option Key → Bool
is_key key None = false
is_key key (Some other) = bytes_eq (key_name other) (key_name key)

abbrev pub field_value : Key → List (List ℕ) → Option (List ℕ) → Option (List ℕ)
field_value key [] before = before
field_value key (word ∷ []) before = before
field_value key (name ∷ value ∷ others) before =
    if is_key key (key_named (trim name)) then Some (trim value) else before

abbrev pub last_value : Key → List (List ℕ) → Option (List ℕ) → Option (List ℕ)
last_value key [] before = before
last_value key (part ∷ rest) before = last_value key rest (field_value key (parts 61 part) before)
