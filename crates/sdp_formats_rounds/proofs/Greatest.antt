-- The best row is the last of the greatest score.
use Rattle.std.proofs.Common.{◌≡◌, ℕ, ◌≤◌, Bool, true, false, List, [], ◌∷◌, ◌++◌, refl, sym, ◌∙◌, ap}
use Rattle.std.proofs.Common.{subst, append_assoc, append-nil, arith, Option, Some, None, if◌then◌else◌, nat_le, nat_lt}
use Rattle.std.specs.Prelude.{fold, is_none}
use Rattle.std.specs.List.{list_all}
use Rattle.std.proofs.lemmas.Grind.{common_steps}
use Rattle.std.proofs.lemmas.List.Folds.{list_all-append}
use Rattle.sdp_formats_rows.specs.declared.spec.CodecSpec.{CodecSpec}
use Rattle.sdp_formats_rows.specs.Rows.{Row}
use Rattle.sdp_formats_rows.specs.Scores.{score}
use Rattle.sdp_formats_rounds.specs.Best.{is_reached, points_of, better, best_row, is_at_most, is_below, IsBest}
use Rattle.sdp_formats_rounds.specs.Best.{BestIsBest, NoneMatches}
use Rattle.sdp_formats_rounds.proofs.Bests.{some_stays}

abbrev AtMost : CodecSpec → ℕ → Row → Bool
AtMost spec n row = is_at_most n (score spec row.spec)

abbrev Below : CodecSpec → ℕ → Row → Bool
Below spec n row = is_below n (score spec row.spec)

abbrev NoMatch : CodecSpec → Row → Bool
NoMatch spec row = is_none (score spec row.spec)

list_mono : (P Q : Row → Bool) → ((r : Row) → P r ≡ true → Q r ≡ true) → (xs : List Row) → list_all P xs ≡ true
    → list_all Q xs ≡ true
list_mono P Q f [] e = refl
list_mono P Q f (x ∷ xs) e =
    let ih : list_all P xs ≡ true → list_all Q xs ≡ true = list_mono P Q f xs in
    let here : P x ≡ true → Q x ≡ true = f x in
    grind (arith, common_steps)

at_most_mono : (p n : ℕ) (o : Option ℕ) → p ≤ n → is_at_most p o ≡ true → is_at_most n o ≡ true
at_most_mono p n None le e = refl
at_most_mono p n (Some m) le e = grind (arith, common_steps)

below_mono : (p n : ℕ) (o : Option ℕ) → p ≤ n → is_below p o ≡ true → is_at_most n o ≡ true
below_mono p n None le e = refl
below_mono p n (Some m) le e = grind (arith, common_steps)

none_at_most : (n : ℕ) (o : Option ℕ) → is_none o ≡ true → is_at_most n o ≡ true
none_at_most n None e = refl
none_at_most n (Some m) e = cc

two : (P : Row → Bool) (xs ys : List Row) → list_all P xs ≡ true → list_all P ys ≡ true → list_all P (xs ++ ys) ≡ true
two P xs ys e f = list_all-append P xs ys ∙ grind (arith, common_steps)

one : (P : Row → Bool) (x : Row) → P x ≡ true → list_all P (x ∷ []) ≡ true
one P x e = rw e refl

-- the step at a row that doesn't match, that matches as well, that matches less
step_none : (spec : CodecSpec) (o : Option Row) (r : Row) → score spec r.spec ≡ None → better spec o r ≡ o
step_none spec o r q =
    let pick : Option ℕ → Option Row = λ p. if is_reached (points_of spec o) p then Some r else o in ap pick q

step_some : (spec : CodecSpec) (x r : Row) (n p : ℕ) (reached : Bool) → score spec x.spec ≡ Some n
    → score spec r.spec ≡ Some p → nat_le n p ≡ reached → better spec (Some x) r ≡ (if reached then Some r else Some x)
step_some spec x r n p reached s q is =
    let pick : Option ℕ → Option ℕ → Option Row = λ a b. if is_reached a b then Some r else Some x in
    ap (λ a. pick a (score spec r.spec)) s ∙ ap (pick (Some n)) q
    ∙ ap (λ (b : Bool). let o : Option Row = if b then Some r else Some x in o) is

step_first : (spec : CodecSpec) (r : Row) (p : ℕ) → score spec r.spec ≡ Some p → better spec None r ≡ Some r
step_first spec r p q = let pick : Option ℕ → Option Row = λ o. if is_reached None o then Some r else None in ap pick q

moved : (before passed rows : List Row) (x r : Row)
    → before ++ x ∷ ((passed ++ r ∷ []) ++ rows) ≡ before ++ x ∷ (passed ++ r ∷ rows)
moved before passed rows x r = ap (λ (l : List Row). before ++ x ∷ l) (append_assoc passed (r ∷ []) rows)

passed_over : (before passed rows : List Row) (x r : Row)
    → (before ++ x ∷ passed) ++ r ∷ ([] ++ rows) ≡ before ++ x ∷ (passed ++ r ∷ rows)
passed_over before passed rows x r = append_assoc before (x ∷ passed) (r ∷ rows)

best_from : (spec : CodecSpec) (rows before passed : List Row) (x : Row) (n : ℕ) (b : Row) → score spec x.spec ≡ Some n
    → list_all (AtMost spec n) before ≡ true → list_all (Below spec n) passed ≡ true
    → fold (better spec) (Some x) rows ≡ Some b → IsBest spec (before ++ x ∷ (passed ++ rows)) b
best_from spec [] before passed x n b s a l e =
    let same : x ≡ b = (cc) in
    rw (append-nil passed, ← same)
    (record { before = before; behind = passed; points = n; placed = refl; scored = s; none_better = a; last = l })
best_from spec (r ∷ rows) before passed x n b s a l e =
    at (score spec r.spec) refl (λ more. best_from spec rows before (passed ++ r ∷ []) x n b s a more)
    (λ p. best_from spec rows (before ++ x ∷ passed) [] r p b)
  where
    pick : (p : ℕ) (reached : Bool) → score spec r.spec ≡ Some p → nat_le n p ≡ reached
        → (list_all (Below spec n) (passed ++ r ∷ []) ≡ true → fold (better spec) (Some x) rows ≡ Some b
        → IsBest spec (before ++ x ∷ ((passed ++ r ∷ []) ++ rows)) b)
        → ((p : ℕ) → score spec r.spec ≡ Some p → list_all (AtMost spec p) (before ++ x ∷ passed) ≡ true
        → list_all (Below spec p) [] ≡ true → fold (better spec) (Some r) rows ≡ Some b
        → IsBest spec ((before ++ x ∷ passed) ++ r ∷ ([] ++ rows)) b)
        → IsBest spec (before ++ x ∷ (passed ++ r ∷ rows)) b
    pick p true q is on off =
        let le : n ≤ p = grind (arith, common_steps) in
        let go : Option Row → Option Row = λ o. fold (better spec) o rows in
        let P : List Row → Type 0 = λ l. IsBest spec l b in
        let here : AtMost spec p x ≡ true = rw s is in
        let early = list_mono (AtMost spec n) (AtMost spec p) (λ y. at_most_mono n p (score spec y.spec) le) before a in
        let late = list_mono (Below spec n) (AtMost spec p) (λ y. below_mono n p (score spec y.spec) le) passed l in
        subst P (passed_over before passed rows x r)
        (off p q (two (AtMost spec p) before (x ∷ passed) early (two (AtMost spec p) (x ∷ []) passed
        (one (AtMost spec p) x here) late)) refl (sym (ap go (step_some spec x r n p true s q is)) ∙ e))
    pick p false q is on off =
        let go : Option Row → Option Row = λ o. fold (better spec) o rows in
        let P : List Row → Type 0 = λ l. IsBest spec l b in
        let less : nat_lt p n ≡ true = grind (arith, common_steps) in
        let here : Below spec n r ≡ true = rw q less in
        subst P (moved before passed rows x r)
        (on (two (Below spec n) passed (r ∷ []) l (one (Below spec n) r here))
        (sym (ap go (step_some spec x r n p false s q is)) ∙ e))

    at : (o : Option ℕ) → score spec r.spec ≡ o
        → (list_all (Below spec n) (passed ++ r ∷ []) ≡ true → fold (better spec) (Some x) rows ≡ Some b
        → IsBest spec (before ++ x ∷ ((passed ++ r ∷ []) ++ rows)) b)
        → ((p : ℕ) → score spec r.spec ≡ Some p → list_all (AtMost spec p) (before ++ x ∷ passed) ≡ true
        → list_all (Below spec p) [] ≡ true → fold (better spec) (Some r) rows ≡ Some b
        → IsBest spec ((before ++ x ∷ passed) ++ r ∷ ([] ++ rows)) b)
        → IsBest spec (before ++ x ∷ (passed ++ r ∷ rows)) b
    at None q on off =
        let go : Option Row → Option Row = λ o. fold (better spec) o rows in
        let P : List Row → Type 0 = λ l. IsBest spec l b in
        let here : Below spec n r ≡ true = rw q refl in
        subst P (moved before passed rows x r)
        (on (two (Below spec n) passed (r ∷ []) l (one (Below spec n) r here))
        (sym (ap go (step_none spec (Some x) r q)) ∙ e))
    at (Some p) q on off = pick p (nat_le n p) q refl on off

start : (spec : CodecSpec) (rows before : List Row) (b : Row) → list_all (NoMatch spec) before ≡ true
    → fold (better spec) None rows ≡ Some b → IsBest spec (before ++ rows) b
start spec [] before b a e = cc
start spec (r ∷ rows) before b a e = at (score spec r.spec) refl (λ more. start spec rows (before ++ r ∷ []) b more)
  where
    at : (o : Option ℕ) → score spec r.spec ≡ o
        → (list_all (NoMatch spec) (before ++ r ∷ []) ≡ true → fold (better spec) None rows ≡ Some b
        → IsBest spec ((before ++ r ∷ []) ++ rows) b)
        → IsBest spec (before ++ r ∷ rows) b
    at None q on =
        let go : Option Row → Option Row = λ o. fold (better spec) o rows in
        let P : List Row → Type 0 = λ l. IsBest spec l b in
        let here : NoMatch spec r ≡ true = rw q refl in
        subst P (append_assoc before (r ∷ []) rows)
        (on (two (NoMatch spec) before (r ∷ []) a (one (NoMatch spec) r here))
        (sym (ap go (step_none spec None r q)) ∙ e))
    at (Some p) q on =
        let go : Option Row → Option Row = λ o. fold (better spec) o rows in
        let early = list_mono (NoMatch spec) (AtMost spec p) (λ y. none_at_most p (score spec y.spec)) before a in
        best_from spec rows before [] r p b q early refl (sym (ap go (step_first spec r p q)) ∙ e)

pub best_is_best : BestIsBest
best_is_best spec rows best e = start spec rows [] best refl e

pub none_matches : NoneMatches
none_matches spec [] e = refl
none_matches spec (r ∷ rows) e = at (score spec r.spec) refl (none_matches spec rows)
  where
    at : (o : Option ℕ) → score spec r.spec ≡ o
        → (best_row spec rows ≡ None → list_all (NoMatch spec) rows ≡ true)
        → list_all (NoMatch spec) (r ∷ rows) ≡ true
    at None q on =
        let go : Option Row → Option Row = λ o. fold (better spec) o rows in
        let here : NoMatch spec r ≡ true = rw q refl in
        two (NoMatch spec) (r ∷ []) rows (one (NoMatch spec) r here) (on (sym (ap go (step_none spec None r q)) ∙ e))
    at (Some p) q on =
        let go : Option Row → Option Row = λ o. fold (better spec) o rows in
        absurd (some_stays spec r rows (sym (ap go (step_first spec r p q)) ∙ e))
