-- Words for values.
use Rattle.std.specs.Prelude.{ℕ, List, [], ◌∷◌, Option, Some, None, if◌then◌else◌}
use Rattle.std.specs.Str.{bytes_eq}

-- Words, each with the value that it stands for.
abbrev pub Table : Type 0 → Type 0
Table A = List (List ℕ × A)

-- The value of the first word equal to the whole text.
abbrev pub word_of : {A : Type 0} → Table A → List ℕ → Option A
word_of [] text = None
word_of (row ∷ rows) text = if bytes_eq text row.0 then Some row.1 else word_of rows text
