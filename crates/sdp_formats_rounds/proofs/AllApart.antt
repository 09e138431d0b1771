-- All rows are apart.
use Rattle.std.proofs.Common.{◌≡◌, ℕ, Bool, true, false, ◌||◌, List, [], ◌∷◌, ◌++◌, refl, sym, ◌∙◌, subst, arith}
use Rattle.std.proofs.Common.{Option, Some, None, ◌==◌}
use Rattle.std.proofs.lemmas.Grind.{common_steps}
use Rattle.sdp_formats_rows.specs.Rows.{Row}
use Rattle.sdp_formats_rounds.specs.Types.{is_given, listed, locked_types, types_of}
use Rattle.sdp_formats_rounds.specs.Rounds.{round}
use Rattle.sdp_formats_rounds.specs.Laws.{Along, HasNone, IsApart, is_among, is_distinct, rounds}
use Rattle.sdp_formats_rounds.specs.TypeLaws.{AllAreApart, RoundsKeepTypesApart, UnlockedAreApart, types_in}
use Rattle.sdp_formats_rounds.specs.TypeLaws.{unlocked_types}
use Rattle.sdp_formats_rounds.proofs.Apart.{among_append, apart_behind, distinct_behind, distinct_front, join, left_in}
use Rattle.sdp_formats_rounds.proofs.Apart.{left_out}
use Rattle.sdp_formats_rounds.proofs.Apart.{or_none, right_in, right_out}
use Rattle.sdp_formats_rounds.proofs.Holds.{locked_types_distinct}
use Rattle.sdp_formats_rounds.proofs.Left.{unlocked_rows_apart}
use Rattle.sdp_formats_rounds.proofs.Locked.{locked_one, unlocked_one, types_has}
use Rattle.sdp_formats_rounds.proofs.Split.{split_ok, ok_same}
use Rattle.sdp_formats_rounds.proofs.Unlocked.{unlocked_stay_apart}
use Rattle.sdp_formats_rounds.proofs.UnlockedTypes.{none_unlocked, of_locked, of_unlocked, split}

no_both : (a b : Bool) → (a ≡ true → b ≡ false) → b ≡ true → a ≡ false
no_both false b h e = refl
no_both true b h e = let no : b ≡ false = h refl in absurd (cc)

pub all_apart : AllAreApart
all_apart [] l u h = refl
all_apart (row ∷ rows) l u h = at row.locked refl (all_apart rows)
  where
    at : (b : Bool) → row.locked ≡ b
        → (is_distinct (locked_types rows) ≡ true → is_distinct (unlocked_types rows) ≡ true
        → ((t : ℕ) → is_among (unlocked_types rows) t ≡ true → is_among (locked_types rows) t ≡ false)
        → is_distinct (types_in rows) ≡ true)
        → is_distinct (types_in (row ∷ rows)) ≡ true
    at true is ih =
        let one = locked_one row rows is in
        let same = of_locked row rows is in
        let d : is_distinct (types_of row ++ locked_types rows) ≡ true = subst (λ l. is_distinct l ≡ true) one l in
        let e : is_distinct (unlocked_types rows) ≡ true = subst (λ l. is_distinct l ≡ true) same u in
        let g : (t : ℕ) → is_among (unlocked_types rows) t ≡ true
        → is_among (types_of row ++ locked_types rows) t ≡ false
        = λ t m. subst (λ l. is_among l t ≡ false) one (h t (subst (λ l. is_among l t ≡ true) (sym same) m)) in
        join (types_of row) (types_in rows) (distinct_front (types_of row) (locked_types rows) d)
        (ih (distinct_behind (types_of row) (locked_types rows) d) e
        (λ t m. right_out t (types_of row) (locked_types rows) (g t m)))
        (λ t m. split rows t ∙ or_none _ _ (apart_behind (types_of row) (locked_types rows) t d m)
        (no_both (is_among (unlocked_types rows) t) (is_among (types_of row) t)
        (λ v. left_out t (types_of row) (locked_types rows) (g t v)) m))
    at false is ih =
        let one = of_unlocked row rows is in
        let same = unlocked_one row rows is in
        let d : is_distinct (types_of row ++ unlocked_types rows) ≡ true = subst (λ l. is_distinct l ≡ true) one u in
        let e : is_distinct (locked_types rows) ≡ true = subst (λ l. is_distinct l ≡ true) same l in
        let g : (t : ℕ) → is_among (types_of row ++ unlocked_types rows) t ≡ true
        → is_among (locked_types rows) t ≡ false
        = λ t m. subst (λ l. is_among l t ≡ false) same (h t (subst (λ l. is_among l t ≡ true) (sym one) m)) in
        join (types_of row) (types_in rows) (distinct_front (types_of row) (unlocked_types rows) d)
        (ih e (distinct_behind (types_of row) (unlocked_types rows) d)
        (λ t m. g t (right_in t (types_of row) (unlocked_types rows) m)))
        (λ t m. split rows t ∙ or_none _ _ (g t (left_in t (types_of row) (unlocked_types rows) m))
        (apart_behind (types_of row) (unlocked_types rows) t d m))

pub unlocked_apart : UnlockedAreApart
unlocked_apart [] d = rw none_unlocked refl
unlocked_apart (row ∷ rows) d = at row.locked refl
    (unlocked_apart rows (distinct_behind (types_of row) (types_in rows) d))
  where
    at : (b : Bool) → row.locked ≡ b → is_distinct (unlocked_types rows) ≡ true
        → is_distinct (unlocked_types (row ∷ rows)) ≡ true
    at true is ih = rw (of_locked row rows is) ih
    at false is ih = rw (of_unlocked row rows is)
        (join (types_of row) (unlocked_types rows) (distinct_front (types_of row) (types_in rows) d) ih
        (λ t m. out t (apart_behind (types_of row) (types_in rows) t d m)))
      where
        out : (t : ℕ) → is_among (types_in rows) t ≡ false → is_among (unlocked_types rows) t ≡ false
        out t e = let s = split rows t in grind (arith, common_steps)

-- a type of a row that has none of some types is none of them
none_of : (types : List ℕ) (pt : ℕ) (resend red : Option ℕ) (t : ℕ) → is_among types pt ≡ false
    → ((u : ℕ) → resend ≡ Some u → is_among types u ≡ false) → ((u : ℕ) → red ≡ Some u → is_among types u ≡ false)
    → is_among (pt ∷ (listed resend ++ listed red)) t ≡ true → is_among types t ≡ false
none_of types pt resend red t p r q m = first (pt == t) refl
  where
    same : (u : ℕ) → (u == t) ≡ true → is_among types u ≡ false → is_among types t ≡ false
    same u is n = let e : u ≡ t = grind (arith, common_steps) in rw e at n

    third : (o : Option ℕ) → ((u : ℕ) → o ≡ Some u → is_among types u ≡ false) → is_given o t ≡ true
        → is_among types t ≡ false
    third None f e = cc
    third (Some u) f e = same u e (f u refl)

    second : (b : Bool) → is_given resend t ≡ b → (pt == t) ≡ false → is_among types t ≡ false
    second true is other = third resend r is
    second false is other =
        let h = types_has pt resend red t in
        third red q (grind (arith, common_steps))

    first : (b : Bool) → (pt == t) ≡ b → is_among types t ≡ false
    first true is = same pt is p
    first false is = second (is_given resend t) refl is

-- the rows that a round leaves unlocked have no type of these
left_apart : (types : List ℕ) (rows after : List Row) → Along (IsApart types) rows after → (t : ℕ)
    → is_among (unlocked_types after) t ≡ true → is_among types t ≡ false
left_apart types [] [] a t m = absurd (let no : is_among [] t ≡ true = rw none_unlocked at m in cc)
left_apart types (x ∷ xs) (y ∷ ys) a t m = at y.locked refl (left_apart types xs ys a.1 t)
  where
    own : HasNone types y → is_among (types_of y) t ≡ true → is_among types t ≡ false
    own h n = none_of types y.pt y.resend y.red t h.pt h.resend h.red n

    at : (b : Bool) → y.locked ≡ b → (is_among (unlocked_types ys) t ≡ true → is_among types t ≡ false)
        → is_among types t ≡ false
    at true is ih = ih (rw (of_locked y ys is) at m)
    at false is ih =
        let n : is_among (types_of y ++ unlocked_types ys) t ≡ true = rw (of_unlocked y ys is) at m in
        let parts = among_append t (types_of y) (unlocked_types ys) in
        either (is_among (types_of y) t) refl (sym parts ∙ n)
      where
        either : (b : Bool) → is_among (types_of y) t ≡ b
            → (is_among (types_of y) t || is_among (unlocked_types ys) t) ≡ true → is_among types t ≡ false
        either true e o = own (a.0 is) e
        either false e o = ih (grind (arith, common_steps))
left_apart types [] (y ∷ ys) a t m = absurd a
left_apart types (x ∷ xs) [] a t m = absurd a

pub rounds_keep_apart : RoundsKeepTypesApart
rounds_keep_apart [] rows after d e = subst (λ l. is_distinct (types_in l) ≡ true) (ok_same rows after e) d
rounds_keep_apart (s ∷ sections) rows after d e =
    let r = split_ok (round s.dictated s.rows rows) (rounds sections) after e in
    rounds_keep_apart sections r.0 after
    (all_apart r.0 (locked_types_distinct s.dictated s.rows rows r.0 r.1)
    (unlocked_stay_apart s.dictated s.rows rows r.0 (unlocked_apart rows d) r.1)
    (left_apart (locked_types r.0) rows r.0 (unlocked_rows_apart s.dictated s.rows rows r.0 r.1))) r.2
