-- The best row matches, and what has no best row has none among fewer.
use Rattle.std.proofs.Common.{◌≡◌, ◌≢◌, ℕ, Bool, true, false, List, [], ◌∷◌, refl, sym, ◌∙◌, ap, Option, Some, None}
use Rattle.std.proofs.Common.{cond, if◌then◌else◌, inl, inr}
use Rattle.std.specs.Prelude.{◌⊎◌, fold, filter}
use Rattle.sdp_formats_rows.specs.declared.spec.CodecSpec.{CodecSpec}
use Rattle.sdp_formats_rows.specs.Rows.{Row}
use Rattle.sdp_formats_rows.specs.Scores.{score}
use Rattle.sdp_formats_rounds.specs.Members.{IsIn}
use Rattle.sdp_formats_rounds.specs.Best.{is_reached, points_of, better, best_row}

-- one step: the row so far, or this one, which then matches
step_at : (spec : CodecSpec) (o : Option Row) (r : Row) (b : Row) (reached : Bool)
    → is_reached (points_of spec o) (score spec r.spec) ≡ reached
    → (points_of spec o ≡ None → o ≡ None) → (if reached then Some r else o) ≡ Some b → score spec b.spec ≢ None
step_at spec o r b true is h e = at (score spec r.spec) refl
  where
    same : r ≡ b
    same = (cc)

    at : (p : Option ℕ) → score spec r.spec ≡ p → score spec b.spec ≢ None
    at None q = let w : is_reached (points_of spec o) None ≡ true = rw q at is in λ _. cc w
    at (Some n) q = rw (← same) (λ z. cc (q, z))
step_at spec None r b false is h e = cc
step_at spec (Some x) r b false is h e =
    let same : x ≡ b = (cc) in
    rw (← same) (λ z. cc (h z))

pub best_matches_from : (spec : CodecSpec) (o : Option Row) (rows : List Row) (b : Row)
    → (points_of spec o ≡ None → o ≡ None) → fold (better spec) o rows ≡ Some b → score spec b.spec ≢ None
best_matches_from spec None [] b h e = cc
best_matches_from spec (Some x) [] b h e = let same : x ≡ b = (cc) in rw (← same) (λ z. cc (h z))
best_matches_from spec o (r ∷ rows) b h e =
    best_matches_from spec (better spec o r) rows b (at (better spec o r) refl) e
  where
    at : (v : Option Row) → better spec o r ≡ v → points_of spec v ≡ None → v ≡ None
    at None q n = refl
    at (Some x) q n = absurd (step_at spec o r x (is_reached (points_of spec o) (score spec r.spec)) refl h q n)

pub best_matches : (spec : CodecSpec) (rows : List Row) (b : Row) → best_row spec rows ≡ Some b
    → score spec b.spec ≢ None
best_matches spec rows b e = best_matches_from spec None rows b (λ _. refl) e

pub some_stays : (spec : CodecSpec) (x : Row) (rows : List Row) → fold (better spec) (Some x) rows ≢ None
some_stays spec x [] e = cc
some_stays spec x (r ∷ rows) e = at (is_reached (score spec x.spec) (score spec r.spec)) refl
    (some_stays spec x rows) (some_stays spec r rows)
  where
    at : (b : Bool) → is_reached (score spec x.spec) (score spec r.spec) ≡ b
        → fold (better spec) (Some x) rows ≢ None → fold (better spec) (Some r) rows ≢ None → ⊥
    at true is g h = h (rw is at e)
    at false is g h = g (rw is at e)

first_none : (spec : CodecSpec) (r : Row) → score spec r.spec ≡ None → better spec None r ≡ None
first_none spec r q = let pick : Option ℕ → Option Row = λ o. if is_reached None o then Some r else None in ap pick q

first_some : (spec : CodecSpec) (r : Row) (n : ℕ) → score spec r.spec ≡ Some n → better spec None r ≡ Some r
first_some spec r n q = let pick : Option ℕ → Option Row = λ o. if is_reached None o then Some r else None in ap pick q

pub fewer_none : (spec : CodecSpec) (p : Row → Bool) (rows : List Row) → best_row spec rows ≡ None
    → best_row spec (filter p rows) ≡ None
fewer_none spec p [] e = refl
fewer_none spec p (r ∷ rows) e = at (score spec r.spec) refl (fewer_none spec p rows)
  where
    kept : (b : Bool) → p r ≡ b → score spec r.spec ≡ None → best_row spec (filter p rows) ≡ None
        → best_row spec (filter p (r ∷ rows)) ≡ None
    kept true is q g = rw is (let on : Option Row → Option Row = λ o. fold (better spec) o (filter p rows) in ap on
        (first_none spec r q) ∙ g)
    kept false is q g = rw is g

    at : (o : Option ℕ) → score spec r.spec ≡ o → (best_row spec rows ≡ None
        → best_row spec (filter p rows) ≡ None) → best_row spec (filter p (r ∷ rows)) ≡ None
    at None q g = kept (p r) refl q (g (let on : Option Row → Option Row = λ o. fold (better spec) o rows in sym
        (ap on (first_none spec r q)) ∙ e))
    at (Some n) q g = absurd (some_stays spec r rows (let on : Option Row
        → Option Row = λ o. fold (better spec) o rows in sym (ap on (first_some spec r n q)) ∙ e))

-- the best row is one of them, also if some are left aside
best_from : (spec : CodecSpec) (o : Option Row) (rows : List Row) (b : Row) → fold (better spec) o rows ≡ Some b
    → (o ≡ Some b) ⊎ IsIn b rows
best_from spec o [] b e = inl e
best_from spec o (r ∷ rows) b e = at (best_from spec (better spec o r) rows b e)
  where
    picked : (reached : Bool) → (if reached then Some r else o) ≡ Some b → (o ≡ Some b) ⊎ IsIn b (r ∷ rows)
    picked true f = let same : r ≡ b = (cc) in inr (inl same)
    picked false f = inl f

    at : (better spec o r ≡ Some b) ⊎ IsIn b rows → (o ≡ Some b) ⊎ IsIn b (r ∷ rows)
    at (inl f) = picked (is_reached (points_of spec o) (score spec r.spec)) f
    at (inr i) = inr (inr i)

pub best_in : (spec : CodecSpec) (rows : List Row) (b : Row) → best_row spec rows ≡ Some b → IsIn b rows
best_in spec rows b e = at (best_from spec None rows b e)
  where
    at : (None ≡ Some b) ⊎ IsIn b rows → IsIn b rows
    at (inl f) = absurd (cc)
    at (inr i) = i

pub in_filter : (p : Row → Bool) (rows : List Row) (b : Row) → IsIn b (filter p rows) → IsIn b rows
in_filter p [] b i = i
in_filter p (r ∷ rows) b i = at (p r) i (in_filter p rows b)
  where
    at : (c : Bool) → IsIn b (cond c (r ∷ filter p rows) (filter p rows)) → (IsIn b (filter p rows) → IsIn b rows)
        → IsIn b (r ∷ rows)
    at true (inl same) later = inl same
    at true (inr j) later = inr (later j)
    at false j later = inr (later j)
