-- The answer to a line: its text, or none once memory for it ran out.
use Rattle.std.specs.Prelude.{ℕ, ◌≡◌, ◌==◌, ◌⊎◌, Bool, List, ◌++◌, length, codes, Option, None, Some, Result, Ok, Err}
use Rattle.std.specs.Prelude.{IfSome, if◌then◌else◌}

-- The answer's text, while memory lasts.
abbrev pub answer_of : {T E : Type 0} → Result T E → List ℕ → Option (List ℕ)
answer_of (Ok _) text = Some text
answer_of (Err _) text = None

-- The answer becomes this one, or memory runs out.
abbrev pub Becomes : List ℕ → Option (List ℕ) → Type 0
Becomes text new = (new ≡ Some text) ⊎ (new ≡ None)

-- The text is appended to the answer, unless memory runs out; once it has, nothing more is answered.
abbrev pub Adds : Option (List ℕ) → Option (List ℕ) → Option (List ℕ) → Type 0
Adds None text new = new ≡ None
Adds (Some before) text new = IfSome text (λ bytes. Becomes (before ++ bytes) new)

-- A text is all that is answered, unless memory runs out or has run out.
abbrev pub Ends : Option (List ℕ) → List ℕ → Option (List ℕ) → Type 0
Ends None text new = new ≡ None
Ends (Some _) text new = Becomes text new

-- A dash in the place of no text.
abbrev pub or_dash : List ℕ → List ℕ
or_dash text = if length text == 0 then codes "-" else text

-- A flag's name, or a dash if it is off.
abbrev pub flag : List ℕ → Bool → List ℕ
flag name is_on = if is_on then name else codes "-"
