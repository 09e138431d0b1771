-- An attribute as it is read says the same as the original.
use Rattle.std.proofs.Common.{◌≡◌, ◌+◌, ℕ, Bool, true, false, not, ◌&&◌, ◌||◌, cond, List, [], ◌∷◌, ◌++◌, map, filter}
use Rattle.std.proofs.Common.{refl, ◌∙◌, ap}
use Rattle.std.specs.List.{count_by, fold, list_all, list_any}
use Rattle.sdp_formats_values.specs.declared.param.FormatParam.{FormatParam}
use Rattle.sdp_formats_reader.specs.AsRead.{is_level, is_other, params_as_read, spelled_as}

pub any_map : {A B : Type 0} (f : A → B) (p : B → Bool) (q : A → Bool) → ((a : A) → p (f a) ≡ q a) → (xs : List A)
    → list_any p (map f xs) ≡ list_any q xs
any_map f p q e [] = refl
any_map f p q e (x ∷ xs) = (λ i. e x i || any_map f p q e xs i)

pub all_map : {A B : Type 0} (f : A → B) (p : B → Bool) (q : A → Bool) → ((a : A) → p (f a) ≡ q a) → (xs : List A)
    → list_all p (map f xs) ≡ list_all q xs
all_map f p q e [] = refl
all_map f p q e (x ∷ xs) = (λ i. e x i && all_map f p q e xs i)

count_from : {A B : Type 0} (f : A → B) (p : B → Bool) (q : A → Bool) → ((a : A) → p (f a) ≡ q a) → (xs : List A)
    (n : ℕ) → fold (λ k x. k + cond (p x) 1 0) n (map f xs) ≡ fold (λ k x. k + cond (q x) 1 0) n xs
count_from f p q e [] n = refl
count_from f p q e (x ∷ xs) n =
    ap (λ b. fold (λ k x. k + cond (p x) 1 0) (n + cond b 1 0) (map f xs)) (e x)
    ∙ count_from f p q e xs (n + cond (q x) 1 0)

pub count_map : {A B : Type 0} (f : A → B) (p : B → Bool) (q : A → Bool) → ((a : A) → p (f a) ≡ q a) → (xs : List A)
    → count_by p (map f xs) ≡ count_by q xs
count_map f p q e xs = count_from f p q e xs 0

-- Some in front of the others: the same for each and for one of them.
any_middle : {A : Type 0} (q : A → Bool) (xs : List A) (y : A) (ys : List A)
    → list_any q (xs ++ y ∷ ys) ≡ (q y || list_any q (xs ++ ys))
any_middle q [] y ys = refl
any_middle q (x ∷ xs) y ys = ap (λ b. q x || b) (any_middle q xs y ys) ∙ swapped (q x) (q y) (list_any q (xs ++ ys))
  where
    swapped : (a b c : Bool) → (a || (b || c)) ≡ (b || (a || c))
    swapped true true c = refl
    swapped true false c = refl
    swapped false true c = refl
    swapped false false c = refl

all_middle : {A : Type 0} (q : A → Bool) (xs : List A) (y : A) (ys : List A)
    → list_all q (xs ++ y ∷ ys) ≡ (q y && list_all q (xs ++ ys))
all_middle q [] y ys = refl
all_middle q (x ∷ xs) y ys = ap (λ b. q x && b) (all_middle q xs y ys) ∙ swapped (q x) (q y) (list_all q (xs ++ ys))
  where
    swapped : (a b c : Bool) → (a && (b && c)) ≡ (b && (a && c))
    swapped true true c = refl
    swapped true false c = refl
    swapped false true c = refl
    swapped false false c = refl

any_step : (q : FormatParam → Bool) (x : FormatParam) (front back : List FormatParam) (b : Bool)
    → list_any q (cond b (x ∷ front) front ++ cond (not b) (x ∷ back) back) ≡ (q x || list_any q (front ++ back))
any_step q x front back true = refl
any_step q x front back false = any_middle q front x back

all_step : (q : FormatParam → Bool) (x : FormatParam) (front back : List FormatParam) (b : Bool)
    → list_all q (cond b (x ∷ front) front ++ cond (not b) (x ∷ back) back) ≡ (q x && list_all q (front ++ back))
all_step q x front back true = refl
all_step q x front back false = all_middle q front x back

any_parted : (q : FormatParam → Bool) (xs : List FormatParam)
    → list_any q (filter is_level xs ++ filter is_other xs) ≡ list_any q xs
any_parted q [] = refl
any_parted q (x ∷ xs) = any_step q x (filter is_level xs) (filter is_other xs) (is_level x)
    ∙ ap (λ b. q x || b) (any_parted q xs)

all_parted : (q : FormatParam → Bool) (xs : List FormatParam)
    → list_all q (filter is_level xs ++ filter is_other xs) ≡ list_all q xs
all_parted q [] = refl
all_parted q (x ∷ xs) = all_step q x (filter is_level xs) (filter is_other xs) (is_level x)
    ∙ ap (λ b. q x && b) (all_parted q xs)

pub any_as_read : (p q : FormatParam → Bool) → ((x : FormatParam) → p (spelled_as x) ≡ q x) → (xs : List FormatParam)
    → list_any p (params_as_read xs) ≡ list_any q xs
any_as_read p q e xs = any_parted p (map spelled_as xs) ∙ any_map spelled_as p q e xs

pub all_as_read : (p q : FormatParam → Bool) → ((x : FormatParam) → p (spelled_as x) ≡ q x) → (xs : List FormatParam)
    → list_all p (params_as_read xs) ≡ list_all q xs
all_as_read p q e xs = all_parted p (map spelled_as xs) ∙ all_map spelled_as p q e xs
