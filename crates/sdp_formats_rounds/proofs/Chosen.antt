-- Rows that are chosen of others.
use Rattle.std.proofs.Common.{◌≡◌, ℕ, Bool, true, false, not, ◌==◌, List, [], ◌∷◌, ◌++◌, refl, sym, ◌∙◌, ap}
use Rattle.std.proofs.Common.{arith, inl, inr, if◌then◌else◌, subst}
use Rattle.std.specs.Prelude.{fold}
use Rattle.std.specs.List.{list_all}
use Rattle.std.proofs.lemmas.Grind.{common_steps, flat_map-append}
use Rattle.sdp_formats_rows.specs.Rows.{Row}
use Rattle.sdp_formats_rounds.specs.Chosen.{ChosenAreApart, ChosenAreAsAll, has_pt, with_once}
use Rattle.sdp_formats_rounds.specs.Laws.{is_among, is_distinct}
use Rattle.sdp_formats_rounds.specs.Members.{AreIn, IsIn}
use Rattle.sdp_formats_rounds.specs.Types.{types_of}
use Rattle.sdp_formats_rounds.specs.TypeLaws.{types_in}
use Rattle.sdp_formats_rounds.proofs.Apart.{among_append, apart_behind, distinct_behind, distinct_front, join, left_in}
use Rattle.sdp_formats_rounds.proofs.Apart.{right_in}
use Rattle.sdp_formats_rounds.proofs.Locked.{or_left, or_right}

none_or : (a b : Bool) → (a ≡ true → b ≡ true) → b ≡ false → a ≡ false
none_or false b h e = refl
none_or true b h e = let no : b ≡ true = h refl in absurd (cc)

-- a row's types are among those of all
in_types : (rows : List Row) (row : Row) (t : ℕ) → IsIn row rows → is_among (types_of row) t ≡ true
    → is_among (types_in rows) t ≡ true
in_types [] row t i m = absurd i
in_types (x ∷ xs) row t (inl same) m = left_in t (types_of x) (types_in xs) (rw same m)
in_types (x ∷ xs) row t (inr i) m = right_in t (types_of x) (types_in xs) (in_types xs row t i m)

of_row : (rows : List Row) (row : Row) → IsIn row rows → is_distinct (types_in rows) ≡ true
    → is_distinct (types_of row) ≡ true
of_row [] row i d = absurd i
of_row (x ∷ xs) row (inl same) d = subst (λ (r : Row). is_distinct (types_of r) ≡ true) same
    (distinct_front (types_of x) (types_in xs) d)
of_row (x ∷ xs) row (inr i) d = of_row xs row i (distinct_behind (types_of x) (types_in xs) d)

same_number : (n : ℕ) → (n == n) ≡ true
same_number n = grind (arith, common_steps)

-- rows of two types have no type in common
rows_apart : (rows : List Row) (a b : Row) (t : ℕ) → is_distinct (types_in rows) ≡ true → IsIn a rows → IsIn b rows
    → (a.pt == b.pt) ≡ false → is_among (types_of a) t ≡ true → is_among (types_of b) t ≡ false
rows_apart [] a b t d i j n m = absurd i
rows_apart (x ∷ xs) a b t d (inl p) (inl q) n m =
    let same : a ≡ b = sym p ∙ q in
    let yes : (a.pt == b.pt) ≡ true = ap (λ (r : Row). a.pt == r.pt) (sym same) ∙ same_number a.pt in
    absurd (cc)
rows_apart (x ∷ xs) a b t d (inl p) (inr j) n m =
    let here : is_among (types_of x) t ≡ true = rw p m in
    none_or (is_among (types_of b) t) (is_among (types_in xs) t) (in_types xs b t j)
    (apart_behind (types_of x) (types_in xs) t d here)
rows_apart (x ∷ xs) a b t d (inr i) (inl q) n m =
    subst (λ (r : Row). is_among (types_of r) t ≡ false) q
    (none_or (is_among (types_of x) t) (not (is_among (types_in xs) t))
    (λ here. let no = apart_behind (types_of x) (types_in xs) t d here in rw no refl)
    (let yes : is_among (types_in xs) t ≡ true = in_types xs a t i m in rw yes refl))
rows_apart (x ∷ xs) a b t d (inr i) (inr j) n m =
    rows_apart xs a b t (distinct_behind (types_of x) (types_in xs) d) i j n m

-- none of those chosen so far has a type of a row of another type
one_more : (rows so_far : List Row) (row : Row) (t : ℕ) → is_distinct (types_in rows) ≡ true → AreIn so_far rows
    → IsIn row rows → has_pt so_far row.pt ≡ false → is_among (types_in so_far) t ≡ true
    → is_among (types_of row) t ≡ false
one_more rows [] row t d a i n m = cc
one_more rows (x ∷ xs) row t d a i n m = at (is_among (types_of x) t) refl
    (one_more rows xs row t d a.1 i (or_right (x.pt == row.pt) _ n))
  where
    at : (b : Bool) → is_among (types_of x) t ≡ b
        → (is_among (types_in xs) t ≡ true → is_among (types_of row) t ≡ false)
        → is_among (types_of row) t ≡ false
    at true is ih = rows_apart rows x row t d a.0 i (or_left _ _ n) is
    at false is ih =
        let s = among_append t (types_of x) (types_in xs) in
        ih (grind (arith, common_steps))

last_types : (so_far : List Row) (row : Row) → types_in (so_far ++ row ∷ []) ≡ types_in so_far ++ types_of row
last_types so_far row = flat_map-append types_of so_far (row ∷ [])
    ∙ ap (λ l. types_in so_far ++ l) (nil (types_of row))
  where
    nil : (xs : List ℕ) → (xs ++ []) ≡ xs
    nil [] = refl
    nil (x ∷ xs) = ap (λ l. x ∷ l) (nil xs)

are_more : (so_far rows : List Row) (row : Row) → AreIn so_far rows → IsIn row rows → AreIn (so_far ++ row ∷ []) rows
are_more [] rows row a i = (i, tt)
are_more (x ∷ xs) rows row a i = (a.0, are_more xs rows row a.1 i)

step : (rows so_far : List Row) (row : Row) → is_distinct (types_in rows) ≡ true → AreIn so_far rows
    → is_distinct (types_in so_far) ≡ true → IsIn row rows
    → AreIn (with_once so_far row) rows × (is_distinct (types_in (with_once so_far row)) ≡ true)
unfolding with_once
step rows so_far row d a e i = at (has_pt so_far row.pt) refl
  where
    at : (b : Bool) → has_pt so_far row.pt ≡ b
        → AreIn (if b then so_far else so_far ++ row ∷ []) rows
        × (is_distinct (types_in (if b then so_far else so_far ++ row ∷ [])) ≡ true)
    at true is = (a, e)
    at false is = (
      are_more so_far rows row a i,
      rw (last_types so_far row)
          (join (types_in so_far) (types_of row) e (of_row rows row i d)
          (λ t m. one_more rows so_far row t d a i is m)),
    )

grown : (rows so_far picks : List Row) → is_distinct (types_in rows) ≡ true → AreIn so_far rows
    → is_distinct (types_in so_far) ≡ true → AreIn picks rows
    → is_distinct (types_in (fold with_once so_far picks)) ≡ true
grown rows so_far [] d a e p = e
grown rows so_far (x ∷ xs) d a e p =
    let s = step rows so_far x d a e p.0 in grown rows (with_once so_far x) xs d s.0 s.1 p.1

pub chosen_apart : ChosenAreApart
chosen_apart rows picks d p = grown rows [] picks d tt refl p

-- a property of all
in_all : (p : Row → Bool) (rows : List Row) (row : Row) → list_all p rows ≡ true → IsIn row rows → p row ≡ true
in_all p [] row a i = absurd i
in_all p (x ∷ xs) row a (inl same) = let h : p x ≡ true = grind (arith, common_steps) in
    subst (λ (r : Row). p r ≡ true) same h
in_all p (x ∷ xs) row a (inr i) = let h : list_all p xs ≡ true = grind (arith, common_steps) in in_all p xs row h i

all_last : (p : Row → Bool) (so_far : List Row) (row : Row) → list_all p so_far ≡ true → p row ≡ true
    → list_all p (so_far ++ row ∷ []) ≡ true
all_last p [] row a h = rw h refl
all_last p (x ∷ xs) row a h =
    let ih : list_all p xs ≡ true → list_all p (xs ++ row ∷ []) ≡ true = λ b. all_last p xs row b h in
    grind (arith, common_steps)

all_once : (p : Row → Bool) (so_far : List Row) (row : Row) → list_all p so_far ≡ true → p row ≡ true
    → list_all p (with_once so_far row) ≡ true
unfolding with_once
all_once p so_far row a h = at (has_pt so_far row.pt)
  where
    at : (b : Bool) → list_all p (if b then so_far else so_far ++ row ∷ []) ≡ true
    at true = a
    at false = all_last p so_far row a h

all_grown : (p : Row → Bool) (rows so_far picks : List Row) → list_all p rows ≡ true → list_all p so_far ≡ true
    → AreIn picks rows → list_all p (fold with_once so_far picks) ≡ true
all_grown p rows so_far [] a b i = b
all_grown p rows so_far (x ∷ xs) a b i =
    all_grown p rows (with_once so_far x) xs a (all_once p so_far x b (in_all p rows x a i.0)) i.1

pub as_all : ChosenAreAsAll
as_all p rows picks a i = all_grown p rows [] picks a refl i
