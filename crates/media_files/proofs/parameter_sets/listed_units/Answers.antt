use Rattle.std.proofs.Common.{◌≡◌, ◌<◌, ℕ, suc, List, [], ◌∷◌, ◌++◌, Bor, arith, drop, drop-cons, get_or, length, map}
use Rattle.std.proofs.lemmas.List.Elements.{All-head, All-tail}
use Rattle.std.specs.List.{All}
use Rattle.media_files.specs.ParameterSets.{IsUnitText, texts_of}
use Rattle.media_files.proofs.parameter_sets.listed_units.Goals as goal

-- one of the texts
within : (xs : List (List ℕ)) (y : List ℕ) (zs : List (List ℕ)) → All IsUnitText (xs ++ y ∷ zs) → IsUnitText y
within [] y zs h = All-head IsUnitText y zs h
within (x ∷ xs) y zs h = within xs y zs (All-tail IsUnitText x (xs ++ y ∷ zs) h)

-- the first of those that are left
next_is_unit : (xs : List (List ℕ)) (ys : List (Bor (List ℕ))) (i : ℕ) (d : Bor (List ℕ)) (texts : List (List ℕ))
    → xs ++ map (λ y. y.now) (drop i ys) ≡ texts → i < length ys → All IsUnitText texts → IsUnitText (get_or ys i d).now
next_is_unit xs ys i d texts e h all =
    within xs (get_or ys i d).now (map (λ y. y.now) (drop (suc i) ys)) (rw (← e, drop-cons ys i d) at all)

pub returns-in-None-clause-none : goal.returns-in-None-clause-none
returns-in-None-clause-none c = λ h.
    rw c.in-None.is at c.in_ok-unit.ensures.none
    (next_is_unit _ c.deref-one-items.result.now c.loop-one.one-index _ (texts_of c.args.text.now)
    c.loop-one.invariant.texts (omega arith) h)
