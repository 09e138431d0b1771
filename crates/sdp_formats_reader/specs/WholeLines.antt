-- A text that is one line of a kind.
use Rattle.std.specs.Prelude.{ℕ, List, []}
use Rattle.sdp_formats_grammar.specs.Form.{Form}
use Rattle.sdp_formats_grammar.specs.Line.{LineOf}

-- The whole text is one line of this form, and its value satisfies P.
abbrev pub IsLineOf : {A : Type 0} → Form A → List ℕ → (A → Type 0) → Type 0
IsLineOf f text P = (a : _) × LineOf f.Says text a [] × P a
