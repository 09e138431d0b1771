-- Members of what a test lets through.
use Rattle.std.proofs.Common.{◌≡◌, ◌⊎◌, inl, inr, ℕ, Bool, true, false, List, [], ◌∷◌, cond, filter, sym, ◌∙◌, ap}
use Rattle.std.proofs.Common.{subst}
use Rattle.std.proofs.lemmas.Bool.{cases_Bool}
use Rattle.sdp_formats_rounds.specs.Members.{IsIn}

pub filtered : (p : ℕ → Bool) (t : ℕ) (ts : List ℕ) → IsIn t (filter p ts) → IsIn t ts × (p t ≡ true)
filtered p t [] h = absurd h
filtered p t (u ∷ us) h = at (cases_Bool (p u)) (filtered p t us)
  where
    at : (p u ≡ true) ⊎ (p u ≡ false) → (IsIn t (filter p us) → IsIn t us × (p t ≡ true))
        → IsIn t (u ∷ us) × (p t ≡ true)
    at (inl e) later = elim (subst (λ b. IsIn t (cond b (u ∷ filter p us) (filter p us))) e h) [
      | inl s ↦ (inl s, ap p (sym s) ∙ e)
      | inr i ↦ (inr (later i).0, (later i).1)
    ]
    at (inr e) later =
        let i = subst (λ b. IsIn t (cond b (u ∷ filter p us) (filter p us))) e h in
        (inr (later i).0, (later i).1)

pub let_through : (p : ℕ → Bool) (t : ℕ) (ts : List ℕ) → IsIn t ts → p t ≡ true → IsIn t (filter p ts)
let_through p t [] h e = absurd h
let_through p t (u ∷ us) (inl s) e =
    subst (λ b. IsIn t (cond b (u ∷ filter p us) (filter p us))) (sym (ap p s ∙ e)) (inl s)
let_through p t (u ∷ us) (inr h) e = at (p u) (let_through p t us h e)
  where
    at : (b : Bool) → IsIn t (filter p us) → IsIn t (cond b (u ∷ filter p us) (filter p us))
    at true later = inr later
    at false later = later
