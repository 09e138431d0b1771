-- From any text on there are as many lines of a kind as there are, and one or none.
use Rattle.std.proofs.Common.{◌≡◌, ◌⊎◌, ◌≤◌, ℕ, zero, suc, List, [], ◌∷◌, Option, Some, None, length, refl, sym, ◌∙◌}
use Rattle.std.proofs.Common.{ap, inl, inr, arith}
use Rattle.sdp_formats_grammar.specs.Form.{Form, IsExact}
use Rattle.sdp_formats_grammar.specs.Line.{LineOf, next_line}
use Rattle.sdp_formats_grammar.specs.LineLemmas.{line-shorter, next-complete, next-sound}
use Rattle.sdp_formats_grammar.specs.Step.{Many, Perhaps, Stops}

none_some : {A : Type 0} (a : A) → None ≡ Some a → ⊥
none_some a e = cc

same_first : (x y : List ℕ × List ℕ) → Some x ≡ Some y → x.0 ≡ y.0
same_first x y e = cc

module _ {A : Type 0} (f : Form A) (exact : IsExact f) where
  pub line_or_none : (t : List ℕ) → ((a : A) × (r : List ℕ) × LineOf f.Says t a r) ⊎ Stops (LineOf f.Says) t
  line_or_none t = at (next_line t) refl
    where
      read : (c r : List ℕ) → next_line t ≡ Some (c, r) → (o : Option A) → f.reads c ≡ o
          → ((a : A) × (r : List ℕ) × LineOf f.Says t a r) ⊎ Stops (LineOf f.Says) t
      read c r e (Some a) h = inl (a, r, (c, next-sound t c r e, exact.sound c a h))
      read c r e None h = inr (λ a s l. none_some a (sym h
          ∙ ap f.reads (same_first (c, r) (l.0, s) (sym e ∙ next-complete t l.0 s l.1)) ∙ exact.complete l.0 a l.2))

      at : (o : Option (List ℕ × List ℕ)) → next_line t ≡ o
          → ((a : A) × (r : List ℕ) × LineOf f.Says t a r) ⊎ Stops (LineOf f.Says) t
      at (Some (c, r)) e = read c r e (f.reads c) refl
      at None e = inr (λ a s l. none_some (l.0, s) (sym e ∙ next-complete t l.0 s l.1))

  pub perhaps_one : (t : List ℕ) → (o : Option A) × (r : List ℕ) × Perhaps (LineOf f.Says) t o r
  perhaps_one t = elim (line_or_none t) [ inl h ↦ (Some h.0, h.1, h.2) | inr h ↦ (None, t, (refl, h)) ]

  so_many : (n : ℕ) (t : List ℕ) → length t ≤ n → (as' : List A) × (r : List ℕ) × Many (LineOf f.Says) t as' r
  so_many zero t short = elim (line_or_none t) [
    | inl h ↦ let less = line-shorter f.Says t h.0 h.1 h.2 in absurd (omega (less, short, arith))
    | inr h ↦ ([], t, (refl, h))
  ]
  so_many (suc n) t short = elim (line_or_none t) [
    | inl h ↦
        let less = line-shorter f.Says t h.0 h.1 h.2 in
        let more = so_many n h.1 (omega (less, short, arith)) in
        (h.0 ∷ more.0, more.1, ((h.1, h.2, more.2.0), more.2.1))
    | inr h ↦ ([], t, (refl, h))
  ]

  pub as_many : (t : List ℕ) → (as' : List A) × (r : List ℕ) × Many (LineOf f.Says) t as' r
  as_many t = so_many (length t) t (omega arith)
