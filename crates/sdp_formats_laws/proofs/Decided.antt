-- Equality that can be decided.
use Rattle.std.proofs.Common.{◌≡◌, ◌⊎◌, inl, inr, ℕ, List, Option, Some, None, refl, sym, ◌∙◌, ap}
use Rattle.std.proofs.lemmas.Bool.{cases_Bool, cases_eq, false≢true}
use Rattle.std.proofs.lemmas.Slice.Eq.{bytes_eq-Decides}
use Rattle.std.specs.Str.{bytes_eq}

abbrev pub Decided : Type 0 → Type 0
Decided A = (x y : A) → (x ≡ y) ⊎ (x ≡ y → ⊥)

pub numbers : Decided ℕ
numbers = cases_eq

pub texts : Decided (List ℕ)
texts xs ys = elim (cases_Bool (bytes_eq xs ys)) [
  | inl e ↦ inl ((bytes_eq-Decides xs ys).0 e)
  | inr e ↦ inr (λ h. false≢true (sym e ∙ (bytes_eq-Decides xs ys).1 h))
]

pub pairs : {A B : Type 0} → Decided A → Decided B → Decided (A × B)
pairs f g x y = elim (f x.0 y.0) [
  | inl e ↦ elim (g x.1 y.1) [
    | inl h ↦ inl (λ i. (e i, h i))
    | inr n ↦ inr (λ h. n (ap (λ p. p.1) h))
  ]
  | inr n ↦ inr (λ h. n (ap (λ p. p.0) h))
]

pub options : {A : Type 0} → Decided A → Decided (Option A)
options f None None = inl refl
options f None (Some y) = inr (λ h. cc)
options f (Some x) None = inr (λ h. cc)
options f (Some x) (Some y) = elim (f x y) [ inl e ↦ inl (ap Some e) | inr n ↦ inr (λ h. n cc) ]

-- that of what another value stands for
pub through : {A B : Type 0} (to : A → B) (from : B → A) → ((x : A) → from (to x) ≡ x) → Decided B → Decided A
through to from back f x y = elim (f (to x) (to y)) [
  | inl e ↦ inl (sym (back x) ∙ ap from e ∙ back y)
  | inr n ↦ inr (λ h. n (ap to h))
]
