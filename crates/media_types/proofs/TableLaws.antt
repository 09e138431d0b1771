-- What holds of each table of values that have numbers.
use Rattle.std.proofs.Common.{◌≡◌, ℕ, zero, suc, Bool, true, false, cond, eqb, List, [], ◌∷◌, Some, Option, refl, sym}
use Rattle.std.proofs.Common.{ap, ◌∙◌, eqb-true}
use Rattle.std.specs.Prelude.{◌&&◌, find, slice_get}
use Rattle.std.proofs.lemmas.Bool.{false≢true}
use Rattle.std.specs.Ordering.{nat_cmp}
use Rattle.std.specs.declared.cmp.Ordering.{Ordering}
use Rattle.std.specs.declared.cmp.Ordering.TheVariants.{Less, Equal, Greater}
use Rattle.media_types.specs.Tables.{IsRising, IsTable, place_of, with_number}

found_by : {X : Type 0} (number : X → ℕ) (wanted : ℕ) (t : Bool) (y x : X) (others : Option X)
    → eqb (number y) wanted ≡ t → (others ≡ Some x → number x ≡ wanted) → cond t (Some y) others ≡ Some x → number x
    ≡ wanted
found_by number wanted true y x others e later f = let same : y ≡ x = cc in
    ap number (sym same) ∙ eqb-true (number y) wanted e
found_by number wanted false y x others e later f = later f

-- a value that is found has the number
number_found : {X : Type 0} (number : X → ℕ) (table : List X) (wanted : ℕ) (x : X) → with_number number table wanted
    ≡ Some x → number x ≡ wanted
number_found number [] wanted x f = cc
number_found number (y ∷ ys) wanted x f =
    found_by number wanted (eqb (number y) wanted) y x (find (λ z. eqb (number z) wanted) ys) refl
    (number_found number ys wanted x) f

-- a table is one if each value's own number finds it
pub is_table : {X : Type 0} (number : X → ℕ) (table : List X)
    → ((x : X) → with_number number table (number x) ≡ Some x) → IsTable number table
is_table number table own wanted x = (
  number_found number table wanted x,
  λ e. ap (with_number number table) (sym e)
      ∙ own x,
)

-- a test of a table's values and pairs of values
abbrev all_of : {X : Type 0} → (X → Bool) → List X → Bool
all_of test [] = true
all_of test (x ∷ xs) = test x && all_of test xs

abbrev all_pairs : {X : Type 0} → (X → X → Bool) → List X → Bool
all_pairs test table = all_of (λ x. all_of (test x) table) table

both : (x y : Bool) → (x && y) ≡ true → (x ≡ true) × (y ≡ true)
both true true e = (refl, refl)
both true false e = absurd (false≢true e)
both false y e = absurd (false≢true e)

holds_of : {X : Type 0} (test : X → Bool) (xs : List X) (i : ℕ) (x : X) → all_of test xs ≡ true → slice_get xs i
    ≡ Some x → test x ≡ true
holds_of test [] i x e at = cc
holds_of test (y ∷ ys) zero x e at = let same : y ≡ x = cc in ap test (sym same) ∙ (both _ _ e).0
holds_of test (y ∷ ys) (suc i) x e at = holds_of test ys i x (both _ _ e).1 at

abbrev is_same : Ordering → Ordering → Bool
is_same Less Less = true
is_same Equal Equal = true
is_same Greater Greater = true
is_same _ _ = false

same_order : (a b : Ordering) → is_same a b ≡ true → a ≡ b
same_order Less Less e = refl
same_order Less Equal e = absurd (false≢true e)
same_order Less Greater e = absurd (false≢true e)
same_order Equal Less e = absurd (false≢true e)
same_order Equal Equal e = refl
same_order Equal Greater e = absurd (false≢true e)
same_order Greater Less e = absurd (false≢true e)
same_order Greater Equal e = absurd (false≢true e)
same_order Greater Greater e = refl

-- two values are ordered as their places and their numbers are
abbrev pub is_ordered : {X : Type 0} → (X → ℕ) → List X → (X → X → Ordering) → X → X → Bool
is_ordered number table cmp x y = is_same (cmp x y) (nat_cmp (place_of number table x) (place_of number table y))
    && is_same (cmp x y) (nat_cmp (number x) (number y))

abbrev pub are_ordered : {X : Type 0} → (X → ℕ) → List X → (X → X → Ordering) → Bool
are_ordered number table cmp = all_pairs (is_ordered number table cmp) table

ordered : {X : Type 0} (number : X → ℕ) (table : List X) (cmp : X → X → Ordering)
    → ((x : X) → slice_get table (place_of number table x) ≡ Some x) → are_ordered number table cmp ≡ true
    → (x y : X) → is_ordered number table cmp x y ≡ true
ordered number table cmp stands e x y =
    holds_of (is_ordered number table cmp x) table (place_of number table y) y
    (holds_of (λ z. all_of (is_ordered number table cmp z) table) table (place_of number table x) x e (stands x))
    (stands y)

-- a table is rising if each value is at its place, and all pairs are ordered
pub is_rising : {X : Type 0} (number : X → ℕ) (table : List X) (cmp : X → X → Ordering)
    → ((x : X) → slice_get table (place_of number table x) ≡ Some x) → are_ordered number table cmp ≡ true
    → IsRising number table cmp
is_rising number table cmp stands e = record {
  stands = stands;
  by_place = λ x y. same_order _ _ (both _ _ (ordered number table cmp stands e x y)).0;
  by_number = λ x y. same_order _ _ (both _ _ (ordered number table cmp stands e x y)).1;
}
