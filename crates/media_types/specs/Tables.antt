-- Tables of values that have numbers.
use Rattle.std.specs.Prelude.{◌≡◌, ◌↔◌, ℕ, ◌==◌, List, find, count_by, nat_lt, slice_get, Option, Some}
use Rattle.std.specs.declared.cmp.Ordering.{Ordering}
use Rattle.std.specs.Ordering.{nat_cmp}

-- The value of a table that has this number.
abbrev pub with_number : {X : Type 0} → (X → ℕ) → List X → ℕ → Option X
with_number number table wanted = find (λ x. number x == wanted) table

-- A value's index: how many in the table have a smaller number.
abbrev pub place_of : {X : Type 0} → (X → ℕ) → List X → X → ℕ
place_of number table x = count_by (λ y. nat_lt (number y) (number x)) table

-- The table holds every value, and looking up a number gives a value if and only if it is the value's own number.
abbrev pub IsTable : {X : Type 0} → (X → ℕ) → List X → Type 0
IsTable {X} number table = (wanted : ℕ) (x : X) → (with_number number table wanted ≡ Some x) ↔ (number x ≡ wanted)

-- The table is sorted: each value is at its index, and values compare like their indices and like their numbers.
pub record IsRising {X : Type 0} (number : X → ℕ) (table : List X) (cmp : X → X → Ordering) : Type 0 where
  pub stands : (x : X) → slice_get table (place_of number table x) ≡ Some x
  pub by_place : (x y : X) → cmp x y ≡ nat_cmp (place_of number table x) (place_of number table y)
  pub by_number : (x y : X) → cmp x y ≡ nat_cmp (number x) (number y)
