-- Values of a list, each once.
use Rattle.std.proofs.Common.{◌≡◌, ◌⊎◌, ℕ, ◌==◌, Bool, true, false, not, ◌&&◌, ◌||◌, cond, List, [], ◌∷◌, ◌++◌, filter}
use Rattle.std.proofs.Common.{refl, sym, ◌∙◌, ap, arith, inl, inr}
use Rattle.std.proofs.lemmas.Bool.{false≢true}
use Rattle.std.proofs.lemmas.Bool.Decides.{nat_tests}
use Rattle.std.proofs.lemmas.List.Elements.{filter-append}
use Rattle.rtp_media_sections.specs.Repairs.{is_among}
use Rattle.sdp_formats_data.specs.Distinct.{distinct}
use Rattle.sdp_formats_rounds.specs.Members.{IsEach}

-- one value left out
abbrev pub is_other : ℕ → ℕ → Bool
is_other n m = not (m == n)

other_way : (m n : ℕ) → (m == n) ≡ (n == m)
other_way m n = grind (arith, nat_tests)

-- another value is among the rest if it is among all
left_out : (x n : ℕ) → (x == n) ≡ false → (ns : List ℕ) → is_among (filter (is_other x) ns) n ≡ is_among ns n
left_out x n e [] = refl
left_out x n e (m ∷ ns) = at (m == x) refl (left_out x n e ns)
  where
    at : (b : Bool) → (m == x) ≡ b → is_among (filter (is_other x) ns) n ≡ is_among ns n
        → is_among (cond (not b) (m ∷ filter (is_other x) ns) (filter (is_other x) ns)) n ≡ (m == n || is_among ns n)
    at false is later = ap (λ b. m == n || b) later
    at true is later =
        let no : (m == n) ≡ false = grind (arith, nat_tests) in
        later ∙ ap (λ b. b || is_among ns n) (sym no)

pub distinct_names : (ns : List ℕ) (n : ℕ) → is_among (distinct ns) n ≡ is_among ns n
distinct_names [] n = refl
distinct_names (x ∷ ns) n = at (x == n) refl (distinct_names ns n)
  where
    at : (b : Bool) → (x == n) ≡ b → is_among (distinct ns) n ≡ is_among ns n
        → (b || is_among (filter (is_other x) (distinct ns)) n) ≡ (b || is_among ns n)
    at true is later = refl
    at false is later = left_out x n is (distinct ns) ∙ later

-- what holds of each of a list holds of each once
pub each_filtered : (P : ℕ → Type 0) (p : ℕ → Bool) (ns : List ℕ) → IsEach P ns → IsEach P (filter p ns)
each_filtered P p [] h = tt
each_filtered P p (n ∷ ns) h = at (p n) (each_filtered P p ns h.1)
  where
    at : (b : Bool) → IsEach P (filter p ns) → IsEach P (cond b (n ∷ filter p ns) (filter p ns))
    at true later = (h.0, later)
    at false later = later

pub each_distinct : (P : ℕ → Type 0) (ns : List ℕ) → IsEach P ns → IsEach P (distinct ns)
each_distinct P [] h = tt
each_distinct P (n ∷ ns) h = (h.0, each_filtered P (is_other n) (distinct ns) (each_distinct P ns h.1))

-- values that are there already
none_filtered : (p : ℕ → Bool) (ns : List ℕ) → IsEach (λ n. p n ≡ false) ns → filter p ns ≡ []
none_filtered p [] h = refl
none_filtered p (n ∷ ns) h = ap (λ b. cond b (n ∷ filter p ns) (filter p ns)) h.0 ∙ none_filtered p ns h.1

twice : (p q : ℕ → Bool) (ns : List ℕ) → filter p (filter q ns) ≡ filter (λ n. q n && p n) ns
twice p q [] = refl
twice p q (n ∷ ns) = at (q n) (twice p q ns)
  where
    at : (b : Bool) → filter p (filter q ns) ≡ filter (λ n. q n && p n) ns
        → filter p (cond b (n ∷ filter q ns) (filter q ns))
        ≡ cond (b && p n) (n ∷ filter (λ n. q n && p n) ns) (filter (λ n. q n && p n) ns)
    at true later = ap (λ l. cond (p n) (n ∷ l) l) later
    at false later = later

abbrev IsPassed : (ℕ → Bool) → List ℕ → ℕ → Type 0
IsPassed p xs y = (p y ≡ false) ⊎ (is_among xs y ≡ true)

passed_more : (p : ℕ → Bool) (x : ℕ) (xs ys : List ℕ) → IsEach (IsPassed p (x ∷ xs)) ys
    → IsEach (IsPassed (λ n. is_other x n && p n) xs) ys
passed_more p x xs [] h = tt
passed_more p x xs (y ∷ ys) h = (one h.0 (x == y) refl, passed_more p x xs ys h.1)
  where
    one : IsPassed p (x ∷ xs) y → (b : Bool) → (x == y) ≡ b → IsPassed (λ n. is_other x n && p n) xs y
    one k true is = inl (ap (λ b. not b && p y) (other_way y x ∙ is))
    one (inl out) false is = inl (ap (λ b. not b && p y) (other_way y x ∙ is) ∙ out)
    one (inr among) false is = inr (sym (ap (λ b. b || is_among xs y) is) ∙ among)

among_passed : (p : ℕ → Bool) (xs ys : List ℕ) → IsEach (IsPassed p xs) ys
    → filter p (distinct (xs ++ ys)) ≡ filter p (distinct xs)
among_passed p [] ys h = none_filtered p (distinct ys) (each_distinct (λ y. p y ≡ false) ys (all ys h))
  where
    all : (ys : List ℕ) → IsEach (IsPassed p []) ys → IsEach (λ y. p y ≡ false) ys
    all [] h = tt
    all (y ∷ ys) (inl out, h) = (out, all ys h)
    all (y ∷ ys) (inr among, h) = absurd (false≢true among)
among_passed p (x ∷ xs) ys h =
    ap (λ l. cond (p x) (x ∷ l) l)
    (twice p (is_other x) (distinct (xs ++ ys))
    ∙ among_passed (λ n. is_other x n && p n) xs ys (passed_more p x xs ys h)
    ∙ sym (twice p (is_other x) (distinct xs)))

all_kept : (ns : List ℕ) → filter (λ n. true) ns ≡ ns
all_kept [] = refl
all_kept (n ∷ ns) = ap (λ l. n ∷ l) (all_kept ns)

pub distinct_among : (xs ys : List ℕ) → IsEach (λ y. is_among xs y ≡ true) ys → distinct (xs ++ ys) ≡ distinct xs
distinct_among xs ys h =
    sym (all_kept (distinct (xs ++ ys)))
    ∙ among_passed (λ n. true) xs ys (all ys h)
    ∙ all_kept (distinct xs)
  where
    all : (ys : List ℕ) → IsEach (λ y. is_among xs y ≡ true) ys → IsEach (IsPassed (λ n. true) xs) ys
    all [] h = tt
    all (y ∷ ys) h = (inr h.0, all ys h.1)

-- new values after a list are as they are
none_other : (x : ℕ) (ys : List ℕ) → is_among ys x ≡ false → filter (is_other x) ys ≡ ys
none_other x [] e = refl
none_other x (y ∷ ys) e = at (y == x) e (none_other x ys)
  where
    at : (b : Bool) → (b || is_among ys x) ≡ false → (is_among ys x ≡ false → filter (is_other x) ys ≡ ys)
        → cond (not b) (y ∷ filter (is_other x) ys) (filter (is_other x) ys) ≡ y ∷ ys
    at true f later = absurd (false≢true (sym f))
    at false f later = ap (λ l. y ∷ l) (later f)

abbrev pub AreNew : List ℕ → List ℕ → Type 0
AreNew xs [] = Unit {0}
AreNew xs (y ∷ ys) = (is_among xs y ≡ false) × (is_among ys y ≡ false) × AreNew xs ys

not_first : (x : ℕ) (xs ys : List ℕ) → AreNew (x ∷ xs) ys → is_among ys x ≡ false
not_first x xs [] h = refl
not_first x xs (y ∷ ys) h = at (y == x) refl (not_first x xs ys h.2)
  where
    at : (b : Bool) → (y == x) ≡ b → is_among ys x ≡ false → (b || is_among ys x) ≡ false
    at false is later = later
    at true is later = absurd (false≢true (sym h.0 ∙ ap (λ b. b || is_among xs y) (other_way x y ∙ is)))

new_of_rest : (x : ℕ) (xs ys : List ℕ) → AreNew (x ∷ xs) ys → AreNew xs ys
new_of_rest x xs [] h = tt
new_of_rest x xs (y ∷ ys) h = (at (x == y) h.0, h.1, new_of_rest x xs ys h.2)
  where
    at : (b : Bool) → (b || is_among xs y) ≡ false → is_among xs y ≡ false
    at false e = e
    at true e = absurd (false≢true (sym e))

pub new_behind : (xs ys : List ℕ) → AreNew xs ys → distinct (xs ++ ys) ≡ distinct xs ++ ys
new_behind [] [] h = refl
new_behind [] (y ∷ ys) h =
    ap (λ l. y ∷ filter (is_other y) l) (new_behind [] ys h.2)
    ∙ ap (λ l. y ∷ l) (none_other y ys h.1)
new_behind (x ∷ xs) ys h =
    ap (λ l. x ∷ filter (is_other x) l) (new_behind xs ys (new_of_rest x xs ys h))
    ∙ ap (λ l. x ∷ l) (filter-append (is_other x) (distinct xs) ys
    ∙ ap (λ l. filter (is_other x) (distinct xs) ++ l) (none_other x ys (not_first x xs ys h)))
