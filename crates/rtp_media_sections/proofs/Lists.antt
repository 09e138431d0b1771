-- Lists of attributes by parts.
use Rattle.std.proofs.Common.{◌≡◌, ◌+◌, ℕ, Bool, true, false, ◌||◌, cond, List, [], ◌∷◌, ◌++◌, filter_map, Option, None}
use Rattle.std.proofs.Common.{refl, ◌∙◌, ap, arith}
use Rattle.std.specs.List.{cons_option, flat_map, fold, list_all, list_any}
use Rattle.sdp_formats_laws.proofs.Lists.{both, fold_past}

-- none of those that pass one test passes another
pub none_of : {A : Type 0} (p q : A → Bool) → ((a : A) → q a ≡ true → p a ≡ false) → (xs : List A)
    → list_all q xs ≡ true → list_any p xs ≡ false
none_of p q h [] e = refl
none_of p q h (x ∷ xs) e =
    let two = both (q x) (list_all q xs) e in
    (λ i. h x two.0 i || none_of p q h xs two.1 i)

pub no_values : {A B : Type 0} (f : A → Option B) (q : A → Bool) → ((a : A) → q a ≡ true → f a ≡ None)
    → (xs : List A) → list_all q xs ≡ true → filter_map f xs ≡ []
no_values f q h [] e = refl
no_values f q h (x ∷ xs) e =
    let two = both (q x) (list_all q xs) e in
    (λ i. cons_option (h x two.0 i) (no_values f q h xs two.1 i))

pub no_members : {A B : Type 0} (f : A → List B) (q : A → Bool) → ((a : A) → q a ≡ true → f a ≡ [])
    → (xs : List A) → list_all q xs ≡ true → flat_map f xs ≡ []
no_members f q h [] e = refl
no_members f q h (x ∷ xs) e =
    let two = both (q x) (list_all q xs) e in
    (λ i. h x two.0 i ++ no_members f q h xs two.1 i)

-- a count past those that don't count
counted : {A : Type 0} (p : A → Bool) (n : ℕ) (a : A) → p a ≡ false → n + cond (p a) 1 0 ≡ n
counted p n a e = ap (λ b. n + cond b 1 0) e ∙ omega arith

pub count_past : {A : Type 0} (p : A → Bool) (n : ℕ) (xs : List A) → list_any p xs ≡ false
    → fold (λ k x. k + cond (p x) 1 0) n xs ≡ n
count_past p n xs e = fold_past p (λ k x. k + cond (p x) 1 0) (counted p) n xs e
