-- One round of reading pieces.
use Rattle.std.proofs.Common.{◌≡◌, ℕ, List, [], ◌∷◌, ◌++◌, Option, None, Some, Err, refl, sym, ◌∙◌, ap}
use Rattle.std.proofs.Common.{append_assoc}
use Rattle.sdp_formats_grammar.specs.Bind.{◌>>=◌}
use Rattle.sdp_formats_grammar.specs.Form.{each}
use Rattle.sdp_formats_grammar.specs.Refusals.{Gives}
use Rattle.sdp_formats_grammar.specs.declared.refusal.Refusal.{Refusal}
use Rattle.sdp_formats_grammar.specs.declared.refusal.Refusal.TheVariants.{Unfit, Memory}
use Rattle.sdp_formats_grammar.specs.Pieces.{with_front}

front_more : {A : Type 0} (front : List A) (a : A) (o : Option (List A)) → with_front (front ++ a ∷ []) o
    ≡ with_front front (o >>= λ more. Some (a ∷ more))
front_more front a None = refl
front_more front a (Some more) = ap Some (simp append_assoc)

-- a piece that says a value
pub round-reads : {A : Type 0} (f : List ℕ → Option A) (front : List A) (piece : List ℕ) (more : List (List ℕ))
    (a : A) (whole : Option (List A))
    → f piece ≡ Some a → with_front front (each f (piece ∷ more)) ≡ whole
    → with_front (front ++ a ∷ []) (each f more) ≡ whole
round-reads f front piece more a whole h e =
    front_more front a (each f more) ∙ ap (with_front front)
    (sym (ap (λ o. o >>= λ x. each f more >>= λ xs. Some (x ∷ xs)) h)) ∙ e

-- a piece that says nothing
pub round-fails : {A : Type 0} (f : List ℕ → Option A) (front : List A) (piece : List ℕ) (more : List (List ℕ))
    (whole : Option (List A))
    → f piece ≡ None → with_front front (each f (piece ∷ more)) ≡ whole → whole ≡ None
round-fails f front piece more whole h e =
    sym e ∙ ap (λ o. with_front front (o >>= λ x. each f more >>= λ xs. Some (x ∷ xs))) h

pub front_none : {A : Type 0} (o : Option (List A)) → with_front [] o ≡ o
front_none None = refl
front_none (Some xs) = refl

pub round-err : {A : Type 0} (f : List ℕ → Option A) (front : List A) (piece : List ℕ) (more : List (List ℕ))
    (whole : Option (List A)) (e : Refusal)
    → Gives {A = A} (Err e) (f piece) → with_front front (each f (piece ∷ more)) ≡ whole
    → Gives {A = List A} (Err e) whole
round-err f front piece more whole Unfit h e = round-fails f front piece more whole h e
round-err f front piece more whole Memory h e = tt
