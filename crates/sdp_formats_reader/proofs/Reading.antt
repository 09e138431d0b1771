-- What a reader of lines answers decides whether a text is a line whose value is so.
use Rattle.std.proofs.Common.{◌≡◌, ℕ, Bool, false, ◌&&◌, ◌==◌, List, [], ◌∷◌, length}
use Rattle.std.proofs.Common.{sym, subst, ◌∙◌, true≢false, suc, arith}
use Rattle.std.proofs.Common.{Err}
use Rattle.std.proofs.lemmas.Bool.Decides.{nat_tests}
use Rattle.std.specs.Prelude.{◌↔◌, IsTrue}
use Rattle.sdp_formats_grammar.specs.Form.{Form, IsExact}
use Rattle.sdp_formats_grammar.specs.Steps.{nil_cons}
use Rattle.sdp_formats_grammar.specs.Line.{LineOf}
use Rattle.sdp_formats_grammar.specs.LineLemmas.{line-functional}
use Rattle.sdp_formats_grammar.specs.Step.{Steps}
use Rattle.sdp_formats_grammar.specs.declared.refusal.Refusal.{Refusal}
use Rattle.sdp_formats_grammar.specs.declared.refusal.Refusal.TheVariants.{Unfit}
use Rattle.sdp_formats_reader.specs.WholeLines.{IsLineOf}

not_empty : (n : ℕ) (v : Bool) → (suc n == 0 && v) ≡ false
not_empty n v = grind (arith, nat_tests)

-- the line that was read, with nothing after it or something, and a value that is so or not
pub line_read : {A : Type 0} (f : Form A) → IsExact f → (text : List ℕ) (P : A → Type 0) (a : A) (rest : List ℕ)
    (v : Bool) → LineOf f.Says text a rest → (IsTrue v ↔ P a) → IsTrue ((length rest == 0) && v) ↔ IsLineOf f text P
line_read f exact text P a [] v says so = (
  λ is. (a, says, so.0 is),
  λ has. so.1 (subst P (line-functional f exact text has.0 a [] [] has.1 says).0 has.2),
)
line_read f exact text P a (b ∷ rest) v says so = (
  λ is. absurd (true≢false (sym is ∙ not_empty (length rest) v)),
  λ has. absurd (nil_cons b rest (line-functional f exact text has.0 a [] (b ∷ rest) has.1 says).1),
)

-- no line was read
pub none_read : {A : Type 0} (f : Form A) (text : List ℕ) (P : A → Type 0) (e : Refusal) → e ≡ Unfit
    → Steps (LineOf f.Says) text (Err e) → IsTrue false ↔ IsLineOf f text P
none_read f text P e unfit steps = (
  λ is. absurd (true≢false (sym is)),
  λ has. absurd (subst (λ (r : Refusal). Steps (LineOf f.Says) text (Err r)) unfit steps has.0 [] has.1),
)
