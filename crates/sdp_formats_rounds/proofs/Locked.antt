-- The types of locked rows, and rows whose types are new among them.
use Rattle.std.proofs.Common.{◌≡◌, ℕ, Bool, true, false, ◌||◌, ◌==◌, List, [], ◌∷◌, ◌++◌, refl, sym, ◌∙◌, arith}
use Rattle.std.proofs.Common.{Option, Some, None}
use Rattle.std.proofs.lemmas.Grind.{common_steps, flat_map-append}
use Rattle.std.proofs.lemmas.List.Elements.{filter-append}
use Rattle.std.specs.Prelude.{filter}
use Rattle.sdp_formats_rows.specs.Rows.{Row}
use Rattle.sdp_formats_rounds.specs.Types.{listed, types_of, locked_types, is_given, is_own, is_locked_type, is_claimed}
use Rattle.sdp_formats_rounds.specs.Rounds.{given}
use Rattle.sdp_formats_rounds.specs.Laws.{is_among, is_distinct}
use Rattle.sdp_formats_rounds.proofs.Apart.{among_append, distinct_with}

pub none_locked : locked_types [] ≡ []
unfolding locked_types
none_locked = refl

pub locked_append : (xs ys : List Row) → locked_types (xs ++ ys) ≡ locked_types xs ++ locked_types ys
unfolding locked_types
locked_append xs ys = rw (filter-append (λ (row : Row). row.locked) xs ys) (flat_map-append types_of (filter
    (λ row. row.locked) xs) (filter (λ row. row.locked) ys))

pub locked_one : (row : Row) (rest : List Row) → row.locked ≡ true
    → locked_types (row ∷ rest) ≡ types_of row ++ locked_types rest
unfolding locked_types
locked_one row rest e = rw e refl

pub unlocked_one : (row : Row) (rest : List Row) → row.locked ≡ false → locked_types (row ∷ rest) ≡ locked_types rest
unfolding locked_types
unlocked_one row rest e = rw e refl

pub types_has : (pt : ℕ) (resend red : Option ℕ) (t : ℕ) → is_among (pt ∷ (listed resend ++ listed red)) t
    ≡ (pt == t || is_given resend t || is_given red t)
types_has pt None None t = grind (arith, common_steps)
types_has pt (Some r) None t = grind (arith, common_steps)
types_has pt None (Some d) t = grind (arith, common_steps)
types_has pt (Some r) (Some d) t = grind (arith, common_steps)

pub locked_among : (rows : List Row) (t : ℕ) → is_locked_type rows t ≡ is_among (locked_types rows) t
unfolding locked_types
locked_among [] t = refl
locked_among (row ∷ rows) t = at row.locked refl (locked_among rows t)
  where
    at : (b : Bool) → row.locked ≡ b → is_locked_type rows t ≡ is_among (locked_types rows) t
        → is_locked_type (row ∷ rows) t ≡ is_among (locked_types (row ∷ rows)) t
    at false is ih = rw (unlocked_one row rows is, ← ih, is) refl
    at true is ih = rw (
      locked_one row rows is,
      among_append t (types_of row)
          (locked_types rows),
      types_has row.pt row.resend row.red t,
      ← ih,
      is,
    ) refl

-- Types that no locked row has, and that differ.
pub record Fresh (rows : List Row) (row : Row) : Type 0 where
  pub pt : is_locked_type rows row.pt ≡ false
  pub resend : (t : ℕ) → row.resend ≡ Some t → is_claimed rows (given row.pt None) t ≡ false
  pub red : (t : ℕ) → row.red ≡ Some t → is_claimed rows (given row.pt row.resend) t ≡ false

among_with : (t u : ℕ) (xs ys : List ℕ) → is_among (xs ++ ys) t ≡ false → (u == t) ≡ false
    → is_among (xs ++ u ∷ ys) t ≡ false
among_with t u xs ys e n =
    let a = among_append t xs ys in
    let b = among_append t xs (u ∷ ys) in
    grind (arith, common_steps)

swapped : (a b : ℕ) → (a == b) ≡ false → (b == a) ≡ false
swapped a b e = grind (arith, common_steps)

pub or_left : (a b : Bool) → (a || b) ≡ false → a ≡ false
or_left false b e = refl
or_left true b e = e

pub or_right : (a b : Bool) → (a || b) ≡ false → b ≡ false
or_right false b e = e
or_right true b e = cc

pub distinct_three : (pt : ℕ) (resend red : Option ℕ) (xs ys : List ℕ) → is_distinct (xs ++ ys) ≡ true
    → is_among (xs ++ ys) pt ≡ false
    → ((t : ℕ) → resend ≡ Some t → (is_among (xs ++ ys) t || is_own (given pt None) t) ≡ false)
    → ((t : ℕ) → red ≡ Some t → (is_among (xs ++ ys) t || is_own (given pt resend) t) ≡ false)
    → is_distinct (xs ++ (pt ∷ (listed resend ++ listed red) ++ ys)) ≡ true
distinct_three pt None None xs ys d p r q = distinct_with pt xs ys d p
distinct_three pt (Some s) None xs ys d p r q =
    let f = r s refl in
    let n : is_among (xs ++ ys) s ≡ false = or_left _ _ f in
    let o : (pt == s) ≡ false = or_left _ _ (or_right (is_among (xs ++ ys) s) _ f) in
    distinct_with pt xs (s ∷ ys) (distinct_with s xs ys d n) (among_with pt s xs ys p (swapped pt s o))
distinct_three pt None (Some u) xs ys d p r q =
    let f = q u refl in
    let n : is_among (xs ++ ys) u ≡ false = or_left _ _ f in
    let o : (pt == u) ≡ false = or_left _ _ (or_right (is_among (xs ++ ys) u) _ f) in
    distinct_with pt xs (u ∷ ys) (distinct_with u xs ys d n) (among_with pt u xs ys p (swapped pt u o))
distinct_three pt (Some s) (Some u) xs ys d p r q =
    let f = r s refl in
    let n : is_among (xs ++ ys) s ≡ false = or_left _ _ f in
    let o : (pt == s) ≡ false = or_left _ _ (or_right (is_among (xs ++ ys) s) _ f) in
    let g = q u refl in
    let m : is_among (xs ++ ys) u ≡ false = or_left _ _ g in
    let own : (pt == u || s == u) ≡ false = or_right (is_among (xs ++ ys) u) _ g in
    let v : (pt == u) ≡ false = or_left _ _ own in
    let w : (s == u) ≡ false = or_right (pt == u) _ own in
    distinct_with pt xs (s ∷ u ∷ ys)
    (distinct_with s xs (u ∷ ys) (distinct_with u xs ys d m) (among_with s u xs ys n (swapped s u w)))
    (among_with pt s xs (u ∷ ys) (among_with pt u xs ys p (swapped pt u v)) (swapped pt s o))

-- fresh types between those that are there
pub distinct_fresh : (rows : List Row) (row : Row) (xs ys : List ℕ) → ((t : ℕ)
    → is_locked_type rows t ≡ is_among (xs ++ ys) t)
    → Fresh rows row → is_distinct (xs ++ ys) ≡ true → is_distinct (xs ++ (types_of row ++ ys)) ≡ true
distinct_fresh rows row xs ys same fresh d =
    distinct_three row.pt row.resend row.red xs ys d (sym (same row.pt) ∙ fresh.pt)
    (λ t e. rw (← same t) (fresh.resend t e))
    (λ t e. rw (← same t) (fresh.red t e))
