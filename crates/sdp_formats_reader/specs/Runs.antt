-- As many values as a reader finds, at most as many as the text has bytes.
use Rattle.std.proofs.Common.{◌≡◌, ◌≤◌, ℕ, zero, suc, List, [], ◌∷◌, length, Option, Some, None, refl, sym}
use Rattle.std.proofs.Common.{◌∙◌, ap, arith}
use Rattle.sdp_formats_grammar.specs.Steps.{none_some, none_if}
use Rattle.sdp_formats_grammar.specs.Step.{Step, Stops, Begins, Many, IsShortening}

-- The step of a reader.
abbrev pub At : {A : Type 0} → (List ℕ → Option (A × List ℕ)) → Step A
At f t a r = f t ≡ Some (a, r)

abbrev pub onto_run : {A : Type 0} → Option (A × List ℕ) → List ℕ → (List ℕ → List A × List ℕ) → List A × List ℕ
onto_run None t more = ([], t)
onto_run (Some x) t more = (x.0 ∷ (more x.1).0, (more x.1).1)

-- The values, at most so many, and the rest.
abbrev pub run : {A : Type 0} → (List ℕ → Option (A × List ℕ)) → ℕ → List ℕ → List A × List ℕ
run f zero t = ([], t)
run f (suc n) t = onto_run (f t) t (run f n)

pub run-complete : {A : Type 0} (f : List ℕ → Option (A × List ℕ)) → IsShortening (At f)
    → (n : ℕ) (t : List ℕ) (as' : List A) (r : List ℕ) → length t ≤ n
    → Begins (At f) t as' r → Stops (At f) r → run f n t ≡ (as', r)
run-complete f s zero t [] r l h stops = λ i. ([], sym h i)
run-complete f s zero t (a ∷ as') r l h stops = absurd (omega (arith, l, s t a h.0 h.1))
run-complete f s (suc n) t [] r l h stops =
    ap (λ o. onto_run o t (run f n)) (none_if (f t) (λ x e. stops x.0 x.1 (ap f h ∙ e))) ∙ (λ i. ([], sym h i))
run-complete f s (suc n) t (a ∷ as') r l h stops =
    ap (λ o. onto_run o t (run f n)) h.1 ∙ ap (λ (x : List _ × List ℕ). (a ∷ x.0, x.1))
    (run-complete f s n h.0 as' r (omega (arith, l, s t a h.0 h.1)) h.2 stops)

run_cases : {A : Type 0} (f : List ℕ → Option (A × List ℕ)) → IsShortening (At f) → (n : ℕ) (t : List ℕ)
    → length t ≤ suc n → (o : Option (A × List ℕ)) → f t ≡ o
    → ((u : List ℕ) → length u ≤ n → Many (At f) u (run f n u).0 (run f n u).1)
    → Many (At f) t (onto_run o t (run f n)).0 (onto_run o t (run f n)).1
run_cases f s n t l None e more = (refl, λ a r h. none_some (a, r) (sym e ∙ h))
run_cases f s n t l (Some x) e more = let later = more x.1 (omega (arith, l, s t x.0 x.1 e)) in
    ((x.1, e, later.0), later.1)

pub run-sound : {A : Type 0} (f : List ℕ → Option (A × List ℕ)) → IsShortening (At f) → (n : ℕ) (t : List ℕ)
    → length t ≤ n → Many (At f) t (run f n t).0 (run f n t).1
run-sound f s zero t l = (refl, λ a r h. absurd (omega (arith, l, s t a r h)))
run-sound f s (suc n) t l = run_cases f s n t l (f t) refl (λ u k. run-sound f s n u k)
