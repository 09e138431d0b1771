-- Whether a test lets a member through.
use Rattle.std.proofs.Common.{◌≡◌, inl, inr, Bool, true, false, ◌||◌, ◌&&◌, List, [], ◌∷◌, refl, sym, ◌∙◌, ap}
use Rattle.std.specs.List.{list_any}
use Rattle.std.proofs.lemmas.Bool.{cases_Bool, false≢true}
use Rattle.sdp_formats_rounds.specs.Members.{IsIn}

module _ {A : Type 0} (test : A → Bool) where
  pub any_in : (xs : List A) → list_any test xs ≡ true → (x : A) × IsIn x xs × (test x ≡ true)
  any_in [] e = absurd (false≢true e)
  any_in (x ∷ xs) e = elim (cases_Bool (test x)) [
    | inl h ↦ (x, inl refl, h)
    | inr h ↦ (let r = any_in xs (sym (ap (λ b. b || list_any test xs) h) ∙ e) in (r.0, inr r.1, r.2))
  ]

  pub in_any : (xs : List A) (x : A) → IsIn x xs → test x ≡ true → list_any test xs ≡ true
  in_any [] x i e = absurd i
  in_any (y ∷ ys) x (inl s) e = ap (λ b. b || list_any test ys) (ap test s ∙ e)
  in_any (y ∷ ys) x (inr i) e = ap (λ b. test y || b) (in_any ys x i e) ∙ or_true (test y)
    where
      or_true : (b : Bool) → (b || true) ≡ true
      or_true true = refl
      or_true false = refl

pub both : (a b : Bool) → (a && b) ≡ true → (a ≡ true) × (b ≡ true)
both true b e = (refl, e)
both false b e = absurd (false≢true e)
