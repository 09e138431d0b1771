-- A line of a text.
use Rattle.std.specs.Prelude.{◌≡◌, ◌≢◌, ◌⊎◌, ◌++◌, ◌==◌, ◌||◌, ℕ, Bool, List, [], ◌∷◌, Option, Some, None, length}
use Rattle.std.specs.Prelude.{if◌then◌else◌}
use Rattle.std.specs.Borrow.{Bor}
use Rattle.std.specs.List.{list_any}
use Rattle.sdp_formats_grammar.specs.Split.{Lacks, halves}

-- How a line ends: with LF, with CR LF, or at the end of the text.
abbrev pub IsEnded : List ℕ → List ℕ → List ℕ → Type 0
IsEnded text content rest = (text ≡ content ++ 10 ∷ rest) ⊎ (text ≡ content ++ 13 ∷ 10 ∷ rest)
    ⊎ ((text ≡ content) × (rest ≡ []))

-- The text begins with a line with this content, which isn't empty and contains no CR or LF; the rest follows the line
-- end.
abbrev pub IsLine : List ℕ → List ℕ → List ℕ → Type 0
IsLine text content rest = IsEnded text content rest × Lacks 10 content × Lacks 13 content × (content ≢ [])

-- A line of a form.
abbrev pub LineOf : {A : Type 0} → (List ℕ → A → Type 0) → List ℕ → A → List ℕ → Type 0
LineOf F text a rest = (content : List ℕ) × IsLine text content rest × F content a

-- Whether a CR is in it.
abbrev pub has_return : List ℕ → Bool
has_return t = list_any (λ b. b == 13) t

-- A line without the CR before its LF.
abbrev pub without_return : List ℕ → List ℕ
without_return [] = []
without_return (b ∷ []) = if b == 13 then [] else b ∷ []
without_return (b ∷ c ∷ t) = b ∷ without_return (c ∷ t)

-- The content before a line's end.
abbrev pub passed_line : List ℕ → List ℕ → Option (List ℕ × List ℕ)
passed_line content rest = if length content == 0 || has_return content then None else Some (content, rest)

-- A line's content and the rest, given what precedes the first LF and what follows it.
abbrev pub line_in : List ℕ × Option (List ℕ) → Option (List ℕ × List ℕ)
line_in (piece, None) = passed_line piece []
line_in (piece, Some rest) = passed_line (without_return piece) rest

abbrev pub next_line : List ℕ → Option (List ℕ × List ℕ)
next_line t = line_in (halves 10 t)

-- A line reader returns the content of the next line and the rest, or None if the text doesn't begin with a line.
abbrev pub TakesLine : List ℕ → Option (Bor (List ℕ) × Bor (List ℕ)) → Type 0
TakesLine t (Some x) = IsLine t x.0.now x.1.now
TakesLine t None = (content rest : List ℕ) → IsLine t content rest → ⊥
