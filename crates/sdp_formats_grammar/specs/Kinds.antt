-- Kinds of attributes: a name, a colon and a value, or one of several words.
use Rattle.std.specs.Prelude.{ℕ, ◌==◌, Bool, true, not, ◌&&◌, List, [], ◌∷◌, ◌++◌, Option, Some, None}
use Rattle.std.specs.Prelude.{map, if◌then◌else◌}
use Rattle.std.specs.Option.{option_or}
use Rattle.std.specs.Str.{bytes_eq}
use Rattle.sdp_formats_grammar.specs.Form.{Form, told, made, after, either}
use Rattle.sdp_formats_grammar.specs.Split.{split_first}
use Rattle.sdp_formats_grammar.specs.Tables.{Table, word_of}

-- A kind: a name and the form of what follows its colon, or a table of words.
pub data Kind (A : Type 0) : Type 1 where
  Named : List ℕ → Form A → Kind A
  OneOf : Table A → Kind A

abbrev pub kind_form : {A : Type 0} → Kind A → Form A
kind_form (Named name form) = after (name ++ 58 ∷ []) form
kind_form (OneOf table) = told (word_of table)

-- A kind of values made of a kind's own.
abbrev pub made_kind : {A B : Type 0} → (A → B) → Kind A → Kind B
made_kind make (Named name form) = Named name (made make form)
made_kind make (OneOf table) = OneOf (map (λ row. (row.0, make row.1)) table)

-- The first kind, in this order, that fits, or else another form.
abbrev pub first_of : {A : Type 0} → List (Kind A) → Form A → Form A
first_of [] otherwise = otherwise
first_of (kind ∷ kinds) otherwise = either (kind_form kind) (first_of kinds otherwise)

-- What a value says after a name: what the kind of this name reads of it.
abbrev pub value_of : {A : Type 0} → List (Kind A) → List ℕ → List ℕ → Option A
value_of [] name value = None
value_of (Named other form ∷ kinds) name value =
    if bytes_eq name other then form.reads value else value_of kinds name value
value_of (OneOf table ∷ kinds) name value = value_of kinds name value

-- What a word says that is alone.
abbrev pub alone_of : {A : Type 0} → List (Kind A) → List ℕ → Option A
alone_of [] text = None
alone_of (Named name form ∷ kinds) text = alone_of kinds text
alone_of (OneOf table ∷ kinds) text = option_or (word_of table text) (alone_of kinds text)

-- A text by its name, which is what precedes the first colon, or as a word if it has no colon.
abbrev pub by_name : {A : Type 0} → List (Kind A) → List ℕ → Option (List ℕ × List ℕ) → Option A
by_name kinds text (Some cut) = value_of kinds cut.0 cut.1
by_name kinds text None = alone_of kinds text

abbrev pub by_kind : {A : Type 0} → List (Kind A) → Form A → List ℕ → Option A
by_kind kinds otherwise text = option_or (by_name kinds text (split_first 58 text)) (otherwise.reads text)

-- No colon is in the text.
abbrev pub lacks_colon : List ℕ → Bool
lacks_colon [] = true
lacks_colon (b ∷ bs) = not (b == 58) && lacks_colon bs

abbrev pub lack_colons : {A : Type 0} → Table A → Bool
lack_colons [] = true
lack_colons (row ∷ rows) = lacks_colon row.0 && lack_colons rows

-- No kind has this name.
abbrev pub is_new : {A : Type 0} → List ℕ → List (Kind A) → Bool
is_new name [] = true
is_new name (Named other form ∷ kinds) = not (bytes_eq name other) && is_new name kinds
is_new name (OneOf table ∷ kinds) = is_new name kinds

-- The names are distinct, and no name and no word has a colon.
abbrev pub are_apart : {A : Type 0} → List (Kind A) → Bool
are_apart [] = true
are_apart (Named name form ∷ kinds) = lacks_colon name && is_new name kinds && are_apart kinds
are_apart (OneOf table ∷ kinds) = lack_colons table && are_apart kinds
