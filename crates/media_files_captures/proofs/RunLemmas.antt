-- One more value of a run.
use Rattle.std.proofs.Common.{◌≡◌, ◌++◌, List, [], ◌∷◌, Option, Some, refl, sym, ap, ◌∙◌, subst, map}
use Rattle.std.proofs.lemmas.List.{map_push}
use Rattle.media_files_captures.specs.Runs.{Holds}

pub Holds-push : {A S : Type 0} (step : S → Option (A × S)) (from : S) (items : List A) (a : A) (middle next : S)
    → Holds step from items middle → step middle ≡ Some (a, next) → Holds step from (items ++ a ∷ []) next
Holds-push step from [] a middle next held more = (next, subst (λ s. step s ≡ Some (a, next)) held more, refl)
Holds-push step from (b ∷ items) a middle next held more =
    (held.0, held.1, Holds-push step held.0 items a middle next held.2 more)

-- One more value, as its view shows it, in the list that a reader makes.
pub seen-push : {S A R : Type 0} (view : R → A) (step : S → Option (A × S)) (from : S) (items after : List R)
    (item : R) (middle next : S) → after ≡ items ++ item ∷ []
    → Holds step from (map view items) middle → step middle ≡ Some (view item, next)
    → Holds step from (map view after) next
seen-push {S} {A} {R} view step from items after item middle next pushed held more =
    subst (λ (ps : List A). Holds step from ps next)
    (sym (ap (λ (ps : List R). map view ps) pushed ∙ map_push view items item))
    (Holds-push step from (map view items) (view item) middle next held more)
