-- Folds and searches past what says nothing, and lists without repeats.
use Rattle.std.proofs.Common.{◌≡◌, ℕ, Bool, true, false, not, ◌&&◌, ◌||◌, ◌==◌, List, [], ◌∷◌, ◌++◌, refl, sym, ◌∙◌, ap}
use Rattle.std.proofs.Common.{arith}
use Rattle.std.specs.Prelude.{fold}
use Rattle.std.specs.List.{flat_map, list_all, list_any}
use Rattle.std.proofs.lemmas.Grind.{common_steps}
use Rattle.std.proofs.lemmas.List.Folds.{list_all-append, list_any-append}
use Rattle.sdp_formats_rounds.specs.Laws.{is_among, is_distinct}

pub neither : (a b : Bool) → (a || b) ≡ false → (a ≡ false) × (b ≡ false)
neither false b e = (refl, e)
neither true b e = cc

pub both : (a b : Bool) → (a && b) ≡ true → (a ≡ true) × (b ≡ true)
both true b e = (refl, e)
both false b e = cc

pub or_none : (b : Bool) → (b || false) ≡ b
or_none true = refl
or_none false = refl

pub fold_past : {A B : Type 0} (p : A → Bool) (f : B → A → B) → ((b : B) (a : A) → p a ≡ false → f b a ≡ b) → (b : B)
    (xs : List A) → list_any p xs ≡ false → fold f b xs ≡ b
fold_past p f h b [] e = refl
fold_past p f h b (x ∷ xs) e =
    let s = neither (p x) (list_any p xs) e in
    ap (λ c. fold f c xs) (h b x s.0) ∙ fold_past p f h b xs s.1

pub any_past : {A : Type 0} (p q : A → Bool) → ((a : A) → p a ≡ false → q a ≡ false) → (xs : List A)
    → list_any p xs ≡ false → list_any q xs ≡ false
any_past p q h [] e = refl
any_past p q h (x ∷ xs) e =
    let s = neither (p x) (list_any p xs) e in
    ap (λ c. c || list_any q xs) (h x s.0) ∙ any_past p q h xs s.1

pub any_fold_from : {A : Type 0} (p : A → Bool) (b : Bool) (xs : List A)
    → fold (λ b a. b || p a) b xs ≡ (b || list_any p xs)
any_fold_from p b [] = sym (or_none b)
any_fold_from p b (x ∷ xs) = any_fold_from p (b || p x) xs ∙ at b
  where
    at : (b : Bool) → ((b || p x) || list_any p xs) ≡ (b || (p x || list_any p xs))
    at true = refl
    at false = refl

pub any_fold : {A : Type 0} (p : A → Bool) (xs : List A) → fold (λ b a. b || p a) false xs ≡ list_any p xs
any_fold p xs = any_fold_from p false xs

pub none_append : {A : Type 0} (p : A → Bool) (xs ys : List A) → list_any p xs ≡ false → list_any p ys ≡ false
    → list_any p (xs ++ ys) ≡ false
none_append p xs ys e f = list_any-append p xs ys ∙ ap (λ c. c || list_any p ys) e ∙ f

pub none_flat : {X A : Type 0} (p : A → Bool) (g : X → List A) → ((x : X) → list_any p (g x) ≡ false) → (xs : List X)
    → list_any p (flat_map g xs) ≡ false
none_flat p g h [] = refl
none_flat p g h (x ∷ xs) = none_append p (g x) (flat_map g xs) (h x) (none_flat p g h xs)

pub split_distinct : (xs : List ℕ) (t : ℕ) (ys : List ℕ) → is_distinct (xs ++ t ∷ ys) ≡ true
    → (is_among xs t ≡ false) × (is_among ys t ≡ false)
split_distinct [] t ys e =
    let s = both (not (is_among ys t)) (is_distinct ys) e in
    (refl, grind (arith, common_steps))
split_distinct (x ∷ xs) t ys e =
    let s = both (not (is_among (xs ++ t ∷ ys) x)) (is_distinct (xs ++ t ∷ ys)) e in
    let ih = split_distinct xs t ys s.1 in
    let a = list_any-append (λ u. u == x) xs (t ∷ ys) in
    (grind (arith, common_steps), ih.1)

pub or_same : (b c : Bool) → c ≡ false → (b || c) ≡ b
or_same b c e = ap (λ d. b || d) e ∙ or_none b

-- what holds of all that none of the others is
pub all_past : {A : Type 0} (p q : A → Bool) → ((a : A) → p a ≡ false → q a ≡ true) → (xs : List A)
    → list_any p xs ≡ false → list_all q xs ≡ true
all_past p q h [] e = refl
all_past p q h (x ∷ xs) e =
    let s = neither (p x) (list_any p xs) e in
    ap (λ b. b && list_all q xs) (h x s.0) ∙ all_past p q h xs s.1

pub all_append : {A : Type 0} (p : A → Bool) (xs ys : List A) → list_all p xs ≡ true → list_all p ys ≡ true
    → list_all p (xs ++ ys) ≡ true
all_append p xs ys e f = list_all-append p xs ys ∙ ap (λ b. b && list_all p ys) e ∙ f

pub all_flat : {X A : Type 0} (p : A → Bool) (g : X → List A) → ((x : X) → list_all p (g x) ≡ true) → (xs : List X)
    → list_all p (flat_map g xs) ≡ true
all_flat p g h [] = refl
all_flat p g h (x ∷ xs) = all_append p (g x) (flat_map g xs) (h x) (all_flat p g h xs)

pub or_yes : (b : Bool) → (b || true) ≡ true
or_yes true = refl
or_yes false = refl
