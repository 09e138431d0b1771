-- Elements that are in an index.
use Rattle.std.proofs.Common.{◌≡◌, ℕ, ◌+◌, ◌<◌, refl, sym, ◌∙◌, ap, ap₂, arith, Bool, true, false, ◌&&◌, ◌||◌}
use Rattle.std.proofs.Common.{List, [], ◌∷◌, length, true≢false}
use Rattle.std.proofs.lemmas.Bool.Decides.{nat_tests}
use Rattle.std.proofs.lemmas.List.Folds.{list_any_at}
use Rattle.std.proofs.lemmas.List.Quantifiers.{position-Some}
use Rattle.std.specs.Prelude.{nat_lt, not, Option, Some, None, if◌then◌else◌, slice_index_or, is_some, position}
use Rattle.std.specs.List.{list_any, position_or_len}

module _ {X : Type 0} (p : X → Bool) where
  -- some element passes if there is a first one that does
  any-by-place : (xs : List X) → list_any p xs ≡ nat_lt (position_or_len p xs) (length xs)
  any-by-place [] = grind (arith, nat_tests)
  any-by-place (x ∷ xs) = by (p x) (any-by-place xs) where
    by : (b : Bool) → list_any p xs ≡ nat_lt (position_or_len p xs) (length xs) →
        (b || list_any p xs) ≡ nat_lt (if not b then 1 + position_or_len p xs else 0) (length (x ∷ xs))
    by true h = let some : 0 < length (x ∷ xs) = omega arith in grind (arith, nat_tests, some)
    by false h = h ∙ (let more : length (x ∷ xs) ≡ 1 + length xs = omega arith in grind (arith, nat_tests, more))

  by-test : (b : Bool) (n : ℕ) → is_some (if b then Some n else None) ≡ b
  by-test true n = refl
  by-test false n = refl

  pub any-is : (xs : List X) → list_any p xs ≡ is_some (position p xs)
  any-is xs = any-by-place xs ∙ sym (by-test (nat_lt (position_or_len p xs) (length xs)) (position_or_len p xs))

  -- an index has the place of each element that passes
  abbrev pub Stands : List X → X → Option ℕ → Type 0
  Stands xs d index = (n : ℕ) → n < length xs → p (slice_index_or xs n d) ≡ true → index ≡ Some n

  -- what is found by it, tested
  abbrev pub tested : List X → X → Option ℕ → Option ℕ
  tested xs d None = None
  tested xs d (Some n) = if nat_lt n (length xs) && p (slice_index_or xs n d) then Some n else None

  none-passes : (xs : List X) (d : X) (index : Option ℕ) → position p xs ≡ None → tested xs d index ≡ None
  none-passes xs d None h = refl
  none-passes xs d (Some n) h = by (nat_lt n (length xs)) (p (slice_index_or xs n d))
      (λ lt passes. true≢false (sym (list_any_at p xs n d (grind (arith, nat_tests, lt)) passes)
      ∙ any-is xs ∙ ap is_some h)) where
        by : (b c : Bool) → (b ≡ true → c ≡ true → ⊥) → (if b && c then Some n else None) ≡ None
        by true true none = absurd (none refl refl)
        by true false none = refl
        by false c none = refl

  by-place : (xs : List X) (d : X) (index : Option ℕ) → Stands xs d index → (o : Option ℕ) → position p xs ≡ o
      → tested xs d index ≡ o
  by-place xs d index stands None h = none-passes xs d index h
  by-place xs d index stands (Some n) h =
      let f = position-Some p xs n d h in
      let within : nat_lt n (length xs) ≡ true = grind (arith, nat_tests, f.0) in
      ap (tested xs d) (stands n f.0 f.1)
      ∙ ap₂ (λ (b c : Bool). if b && c then Some n else None) within f.1

  -- The place that an index has for the first element that passes, tested, is that place.
  pub looked-up : (xs : List X) (d : X) (index : Option ℕ) → Stands xs d index → tested xs d index ≡ position p xs
  looked-up xs d index stands = by-place xs d index stands (position p xs) refl

-- an element passes one of two tests
pub any-either : {X : Type 0} (p q r : X → Bool) → ((x : X) → r x ≡ (p x || q x)) → (xs : List X)
    → list_any r xs ≡ (list_any p xs || list_any q xs)
any-either p q r either [] = refl
any-either p q r either (x ∷ xs) =
    ap₂ (λ (a b : Bool). a || b) (either x) (any-either p q r either xs)
    ∙ by (p x) (q x) (list_any p xs) (list_any q xs) where
      by : (a b c d : Bool) → ((a || b) || (c || d)) ≡ ((a || c) || (b || d))
      by true b c d = refl
      by false true true d = refl
      by false true false d = refl
      by false false c d = refl
