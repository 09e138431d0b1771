-- The next line, and one value after the other.
use Rattle.std.proofs.Common.{◌≡◌, ℕ, List, Option, Some, None, Bor, Result, Ok, Err, sym, ◌∙◌}
use Rattle.std.proofs.Common.{subst}
use Rattle.sdp_formats_grammar.specs.Refusals.{fitted_of, parted}
use Rattle.sdp_formats_grammar.specs.declared.refusal.Refusal.{Refusal}
use Rattle.sdp_formats_grammar.specs.declared.refusal.Refusal.TheVariants.{Unfit, Memory}
use Rattle.sdp_formats_grammar.specs.Step.{Step, Steps}
use Rattle.std.specs.Option.{option_map}
use Rattle.sdp_formats_grammar.specs.Steps.{none_some}
use Rattle.sdp_formats_grammar.specs.Form.{Form, IsExact}
use Rattle.sdp_formats_grammar.specs.Refusals.{Gives}
use Rattle.sdp_formats_grammar.specs.Line.{IsLine, LineOf, next_line, TakesLine}
use Rattle.sdp_formats_grammar.specs.LineLemmas.{next-sound, next-complete, line-same}

pub takes-line : (t : List ℕ) (r : Option (Bor (List ℕ) × Bor (List ℕ))) → option_map parted r ≡ next_line t
    → TakesLine t r
takes-line t None h = λ content rest l. none_some (content, rest) (h ∙ next-complete t content rest l)
takes-line t (Some x) h = next-sound t x.0.now x.1.now (sym h)

ok_some : {A : Type 0} (x y : A) → fitted_of (Ok x) ≡ Ok (Some y) → x ≡ y
ok_some x y h = cc

unfit_some : {A : Type 0} (x : A) → fitted_of {A = A} (Err Unfit) ≡ Ok (Some x) → ⊥
unfit_some x h = cc

memory_ok : {A : Type 0} (o : Option A) → fitted_of {A = A} (Err Memory) ≡ Ok o → ⊥
memory_ok o h = cc

-- a step that was made
pub step-some : {A : Type 0} (S : Step A) (t : List ℕ) (r : Result (A × Bor (List ℕ)) Refusal) (x : A × Bor (List ℕ))
    → Steps S t r → fitted_of r ≡ Ok (Some x) → S t x.0 x.1.now
step-some S t (Ok y) x h e = subst (λ (z : _ × Bor (List ℕ)). S t z.0 z.1.now) (ok_some y x e) h
step-some S t (Err Unfit) x h e = absurd (unfit_some x e)
step-some S t (Err Memory) x h e = absurd (memory_ok (Some x) e)

-- a line that is there, and says nothing
pub line-err : {A : Type 0} (f : Form A) → IsExact f → (t c r : List ℕ) (e : Refusal) → IsLine t c r
    → Gives {A = A} (Err e) (f.reads c) → Steps {A = A} (LineOf f.Says) t (Err e)
line-err f exact t c r Unfit h k = λ a s l. none_some a
    (sym k ∙ exact.complete c a (subst (λ x. f.Says x a) (line-same t l.0 c s r l.1 h).0 l.2))
line-err f exact t c r Memory h k = tt
