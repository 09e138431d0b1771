-- Lists of numbers without repeats.
use Rattle.std.proofs.Common.{◌≡◌, ℕ, Bool, true, false, ◌||◌, ◌==◌, List, [], ◌∷◌, ◌++◌, refl, arith}
use Rattle.std.proofs.lemmas.Grind.{common_steps}
use Rattle.std.proofs.lemmas.List.Folds.{list_any-append}
use Rattle.sdp_formats_rounds.specs.Laws.{is_among, is_distinct}

pub among_append : (t : ℕ) (xs ys : List ℕ) → is_among (xs ++ ys) t ≡ (is_among xs t || is_among ys t)
among_append t xs ys = list_any-append (λ u. u == t) xs ys

-- one more number anywhere
pub distinct_with : (t : ℕ) (xs ys : List ℕ) → is_distinct (xs ++ ys) ≡ true → is_among (xs ++ ys) t ≡ false
    → is_distinct (xs ++ t ∷ ys) ≡ true
distinct_with t [] ys d n = grind (arith, common_steps)
distinct_with t (x ∷ xs) ys d n =
    let a = among_append x xs ys in
    let b = among_append x xs (t ∷ ys) in
    let ih : is_distinct (xs ++ ys) ≡ true → is_among (xs ++ ys) t ≡ false
    → is_distinct (xs ++ t ∷ ys) ≡ true = distinct_with t xs ys in
    grind (arith, common_steps)

-- lists without repeats, some of them left out
pub among_out : (t : ℕ) (xs ts ys : List ℕ) → is_among (xs ++ (ts ++ ys)) t ≡ false → is_among (xs ++ ys) t ≡ false
among_out t xs ts ys e =
    let a = among_append t xs (ts ++ ys) in
    let b = among_append t ts ys in
    let c = among_append t xs ys in
    grind (arith, common_steps)

pub among_in : (t : ℕ) (xs ts ys : List ℕ) → is_among (xs ++ (ts ++ ys)) t ≡ false → is_among ts t ≡ false
among_in t xs ts ys e =
    let a = among_append t xs (ts ++ ys) in
    let b = among_append t ts ys in
    grind (arith, common_steps)

pub distinct_behind : (ts ys : List ℕ) → is_distinct (ts ++ ys) ≡ true → is_distinct ys ≡ true
distinct_behind [] ys d = d
distinct_behind (t ∷ ts) ys d =
    let ih : is_distinct (ts ++ ys) ≡ true → is_distinct ys ≡ true = distinct_behind ts ys in
    grind (arith, common_steps)

pub distinct_out : (xs ts ys : List ℕ) → is_distinct (xs ++ (ts ++ ys)) ≡ true → is_distinct (xs ++ ys) ≡ true
distinct_out [] ts ys d = distinct_behind ts ys d
distinct_out (x ∷ xs) ts ys d =
    let ih : is_distinct (xs ++ (ts ++ ys)) ≡ true → is_distinct (xs ++ ys) ≡ true = distinct_out xs ts ys in
    let out : is_among (xs ++ (ts ++ ys)) x ≡ false → is_among (xs ++ ys) x ≡ false = among_out x xs ts ys in
    grind (arith, common_steps)

pub distinct_front : (ts ys : List ℕ) → is_distinct (ts ++ ys) ≡ true → is_distinct ts ≡ true
distinct_front [] ys d = refl
distinct_front (t ∷ ts) ys d =
    let ih : is_distinct (ts ++ ys) ≡ true → is_distinct ts ≡ true = distinct_front ts ys in
    let a = among_append t ts ys in
    grind (arith, common_steps)

pub distinct_in : (xs ts ys : List ℕ) → is_distinct (xs ++ (ts ++ ys)) ≡ true → is_distinct ts ≡ true
distinct_in xs ts ys d = distinct_front ts ys (distinct_behind xs (ts ++ ys) d)

pub swap : (a b : ℕ) → (a == b) ≡ false → (b == a) ≡ false
swap a b e = grind (arith, common_steps)

-- a number of the second list is none of the first
apart_two : (xs ys : List ℕ) (t : ℕ) → is_distinct (xs ++ ys) ≡ true → is_among ys t ≡ true → is_among xs t ≡ false
apart_two [] ys t d e = refl
apart_two (x ∷ xs) ys t d e = at (x == t) refl (apart_two xs ys t)
  where
    at : (b : Bool) → (x == t) ≡ b
        → (is_distinct (xs ++ ys) ≡ true → is_among ys t ≡ true → is_among xs t ≡ false)
        → is_among (x ∷ xs) t ≡ false
    at true is ih =
        let same : x ≡ t = grind (arith, common_steps) in
        let a = among_append x xs ys in
        let yes : is_among ys x ≡ true = rw same e in
        grind (arith, common_steps)
    at false is ih = grind (arith, common_steps)

pub apart_behind : (ts ys : List ℕ) (t : ℕ) → is_distinct (ts ++ ys) ≡ true → is_among ts t ≡ true
    → is_among ys t ≡ false
apart_behind ts ys t d e = at (is_among ys t) refl
  where
    at : (b : Bool) → is_among ys t ≡ b → is_among ys t ≡ false
    at false is = is
    at true is = let no : is_among ts t ≡ false = apart_two ts ys t d is in absurd (cc)

-- a number of the middle is none of the others
pub apart_out : (xs ts ys : List ℕ) (t : ℕ) → is_distinct (xs ++ (ts ++ ys)) ≡ true → is_among ts t ≡ true
    → is_among (xs ++ ys) t ≡ false
apart_out xs ts ys t d e =
    let front : is_among (ts ++ ys) t ≡ true → is_among xs t ≡ false = apart_two xs (ts ++ ys) t d in
    let back : is_among ys t ≡ false = apart_behind ts ys t (distinct_behind xs (ts ++ ys) d) e in
    let a = among_append t ts ys in
    let b = among_append t xs ys in
    grind (arith, common_steps)

-- two lists without a common number
pub join : (ts us : List ℕ) → is_distinct ts ≡ true → is_distinct us ≡ true
    → ((t : ℕ) → is_among ts t ≡ true → is_among us t ≡ false) → is_distinct (ts ++ us) ≡ true
join [] us d e h = e
join (t ∷ ts) us d e h =
    let a = among_append t ts us in
    let n : is_among us t ≡ false = h t (grind (arith, common_steps)) in
    let rest : is_distinct ts ≡ true = grind (arith, common_steps) in
    let ih = join ts us rest e (λ u is. h u (grind (arith, common_steps))) in
    grind (arith, common_steps)

pub left_in : (t : ℕ) (xs ys : List ℕ) → is_among xs t ≡ true → is_among (xs ++ ys) t ≡ true
left_in t xs ys e = let a = among_append t xs ys in grind (arith, common_steps)

pub right_in : (t : ℕ) (xs ys : List ℕ) → is_among ys t ≡ true → is_among (xs ++ ys) t ≡ true
right_in t xs ys e = let a = among_append t xs ys in grind (arith, common_steps)

pub right_out : (t : ℕ) (xs ys : List ℕ) → is_among (xs ++ ys) t ≡ false → is_among ys t ≡ false
right_out t xs ys e = let a = among_append t xs ys in grind (arith, common_steps)

pub left_out : (t : ℕ) (xs ys : List ℕ) → is_among (xs ++ ys) t ≡ false → is_among xs t ≡ false
left_out t xs ys e = let a = among_append t xs ys in grind (arith, common_steps)

pub or_none : (a b : Bool) → a ≡ false → b ≡ false → (a || b) ≡ false
or_none a b e f = rw (e, f) refl
