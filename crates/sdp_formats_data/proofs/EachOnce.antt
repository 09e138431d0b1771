-- Values that are added one by one, if they aren't there yet, are those of the list, each once.
use Rattle.std.proofs.Common.{◌≡◌, ℕ, ◌==◌, Bool, true, false, not, ◌&&◌, ◌||◌, cond, List, [], ◌∷◌, ◌++◌, filter, fold}
use Rattle.std.proofs.Common.{refl, sym, ap, ◌∙◌, append-nil, arith}
use Rattle.std.proofs.lemmas.List.{append_assoc}
use Rattle.std.proofs.lemmas.List.Folds.{list_any-append}
use Rattle.std.proofs.lemmas.List.Sums.{fold-append}
use Rattle.sdp_formats_data.specs.Distinct.{distinct, is_among, with_new}

filter_alike : (p q : ℕ → Bool) → ((m : ℕ) → p m ≡ q m) → (xs : List ℕ) → filter p xs ≡ filter q xs
filter_alike p q e [] = refl
filter_alike p q e (x ∷ xs) =
    ap (λ (t : Bool). cond t (x ∷ filter p xs) (filter p xs)) (e x)
    ∙ ap (λ (l : List ℕ). cond (q x) (x ∷ l) l) (filter_alike p q e xs)

filter_twice : (p q : ℕ → Bool) (xs : List ℕ) → filter p (filter q xs) ≡ filter (λ m. q m && p m) xs
filter_twice p q [] = refl
filter_twice p q (x ∷ xs) = at (q x) (p x) refl refl (filter_twice p q xs)
  where
    at : (s t : Bool) → q x ≡ s → p x ≡ t → filter p (filter q xs) ≡ filter (λ m. q m && p m) xs
        → filter p (filter q (x ∷ xs)) ≡ filter (λ m. q m && p m) (x ∷ xs)
    at true true i j ih = rw (i, j) (ap (λ (l : List ℕ). x ∷ l) ih)
    at true false i j ih = rw (i, j) ih
    at false t i j ih = rw i ih

abbrev is_new : List ℕ → ℕ → Bool
is_new seen m = not (is_among m seen)

other : (m n : ℕ) (seen : List ℕ) → is_among n seen ≡ true → (not (m == n) && is_new seen m) ≡ is_new seen m
other m n seen e = at (m == n) refl
  where
    at : (t : Bool) → (m == n) ≡ t → (not (m == n) && is_new seen m) ≡ is_new seen m
    at true i =
        let same : m ≡ n = grind arith in
        let among : is_among m seen ≡ true = ap (λ (k : ℕ). is_among k seen) same ∙ e in
        rw (i, among) refl
    at false i = rw i refl

flipped : (m n : ℕ) → (n == m) ≡ (m == n)
flipped m n = grind arith

both_ways : (s t : Bool) → not (s || (t || false)) ≡ (not t && not s)
both_ways true true = refl
both_ways true false = refl
both_ways false true = refl
both_ways false false = refl

more : (m n : ℕ) (seen : List ℕ) → is_new (seen ++ n ∷ []) m ≡ (not (m == n) && is_new seen m)
more m n seen =
    ap not (list_any-append (λ k. k == m) seen (n ∷ []))
    ∙ ap (λ (t : Bool). not (is_among m seen || (t || false))) (flipped m n)
    ∙ both_ways (is_among m seen) (m == n)

added : (ns seen : List ℕ) → fold with_new seen ns ≡ seen ++ filter (is_new seen) (distinct ns)
added [] seen = sym (append-nil seen)
added (n ∷ ns) seen = at (is_among n seen) refl (λ s. added ns s)
  where
    at : (t : Bool) → is_among n seen ≡ t
        → ((s : List ℕ) → fold with_new s ns ≡ s ++ filter (is_new s) (distinct ns))
        → fold with_new seen (n ∷ ns) ≡ seen ++ filter (is_new seen) (distinct (n ∷ ns))
    at true i ih =
        let dropped = filter_twice (is_new seen) (λ m. not (m == n)) (distinct ns)
        ∙ filter_alike (λ m. not (m == n) && is_new seen m) (is_new seen) (λ m. other m n seen i) (distinct ns) in
        rw i (ih seen ∙ ap (λ (l : List ℕ). seen ++ l) (sym dropped))
    at false i ih =
        let longer = seen ++ n ∷ [] in
        let kept = filter_alike (is_new longer) (λ m. not (m == n) && is_new seen m) (λ m. more m n seen) (distinct ns)
        ∙ sym (filter_twice (is_new seen) (λ m. not (m == n)) (distinct ns)) in
        rw i (ih longer ∙ append_assoc seen (n ∷ []) (filter (is_new longer) (distinct ns))
        ∙ ap (λ (l : List ℕ). seen ++ n ∷ l) kept)

all_new : (ns : List ℕ) → filter (is_new []) ns ≡ ns
all_new [] = refl
all_new (n ∷ ns) = ap (λ (l : List ℕ). n ∷ l) (all_new ns)

pub once : (xs ys : List ℕ) → fold with_new (fold with_new [] xs) ys ≡ distinct (xs ++ ys)
once xs ys = sym (fold-append with_new [] xs ys) ∙ added (xs ++ ys) [] ∙ all_new (distinct (xs ++ ys))
