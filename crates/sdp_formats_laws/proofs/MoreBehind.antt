-- The lines of a text with another text after it.
use Rattle.std.proofs.Common.{◌≡◌, ◌≢◌, ℕ, true, List, [], ◌∷◌, ◌++◌, refl, sym}
use Rattle.std.proofs.Common.{◌∙◌, ap, subst, inl, inr, ⊎_elim, append_assoc}
use Rattle.std.proofs.lemmas.Bool.Decides.{Decides-eqb}
use Rattle.sdp_formats_grammar.specs.Split.{Lacks}
use Rattle.sdp_formats_grammar.specs.Line.{IsLine}
use Rattle.sdp_formats_laws.proofs.LineEnds.{lacking, one_cut}
use Rattle.sdp_formats_laws.specs.LineEnds.{is_ended}

ended_tail : (c r : List ℕ) → is_ended (c ++ 10 ∷ r) ≡ true → is_ended r ≡ true
ended_tail [] [] h = refl
ended_tail [] (y ∷ r) h = h
ended_tail (x ∷ []) r h = ended_tail [] r h
ended_tail (x ∷ y ∷ c) r h = ended_tail (y ∷ c) r h

pub never_ended : (c : List ℕ) → c ≢ [] → Lacks 10 c → is_ended c ≡ true → ⊥
never_ended [] some h e = some refl
never_ended (b ∷ []) some h e = h.0 ((Decides-eqb b 10).0 e)
never_ended (b ∷ c ∷ t) some h e = never_ended (c ∷ t) (λ n. cc) h.1 e

both_lack : (xs : List ℕ) → Lacks 10 xs → Lacks 10 (xs ++ 13 ∷ [])
both_lack [] h = ((λ e. cc), tt)
both_lack (x ∷ xs) h = (h.0, both_lack xs h.1)

two_ends : (c r : List ℕ) → c ++ 13 ∷ 10 ∷ r ≡ (c ++ 13 ∷ []) ++ 10 ∷ r
two_ends c r = sym (append_assoc c (13 ∷ []) (10 ∷ r))

module _ (more : List ℕ) where
  pub forth : (t c r : List ℕ) → is_ended t ≡ true → IsLine t c r
      → IsLine (t ++ more) c (r ++ more) × (is_ended r ≡ true)
  forth t c r ok h = ⊎_elim
      (λ (e : t ≡ c ++ 10 ∷ r). (
        (inl (ap (λ x. x ++ more) e ∙ append_assoc c (10 ∷ r) more), h.1, h.2, h.3),
        ended_tail c r (subst (λ x. is_ended x ≡ true) e ok),
      ))
      (λ o. ⊎_elim (λ (e : t ≡ c ++ 13 ∷ 10 ∷ r). (
        (inr (inl (ap (λ x. x ++ more) e ∙ append_assoc c (13 ∷ 10 ∷ r) more)), h.1, h.2, h.3),
        ended_tail (c ++ 13 ∷ []) r (subst (λ x. is_ended x ≡ true) (e ∙ two_ends c r) ok),
      ))
      (λ (e : (t ≡ c) × (r ≡ [])). absurd (never_ended c h.3 h.1 (subst (λ x. is_ended x ≡ true) e.0 ok))) o) h.0

  pub at_cut : (t front rest c r : List ℕ) → t ≡ front ++ 10 ∷ rest → Lacks 10 front → is_ended t ≡ true
      → IsLine (t ++ more) c r → (s : List ℕ) × (r ≡ s ++ more) × IsLine t c s × (is_ended s ≡ true)
  at_cut t front rest c r whole lacks ok h =
      let shape : t ++ more ≡ front ++ 10 ∷ (rest ++ more) =
      ap (λ x. x ++ more) whole ∙ append_assoc front (10 ∷ rest) more in
      let left = ended_tail front rest (subst (λ x. is_ended x ≡ true) whole ok) in
      ⊎_elim (λ (e : t ++ more ≡ c ++ 10 ∷ r).
      let cut = one_cut 10 c front r (rest ++ more) h.1 lacks (sym e ∙ shape) in (
        rest,
        cut.1,
        (inl (whole ∙ ap (λ x. x ++ 10 ∷ rest) (sym cut.0)), h.1, h.2, h.3),
        left,
      ))
      (λ o. ⊎_elim (λ (e : t ++ more ≡ c ++ 13 ∷ 10 ∷ r).
      let cut = one_cut 10 (c ++ 13 ∷ []) front r (rest ++ more) (both_lack c h.1) lacks
      (sym (two_ends c r) ∙ sym e ∙ shape) in (
        rest,
        cut.1,
        (inr (inl (whole ∙ ap (λ x. x ++ 10 ∷ rest) (sym cut.0) ∙ sym (two_ends c rest))), h.1, h.2, h.3),
        left,
      ))
      (λ (e : (t ++ more ≡ c) × (r ≡ [])). absurd (lacking 10 front (rest ++ more) c h.1 (sym shape ∙ e.0))) o) h.0
