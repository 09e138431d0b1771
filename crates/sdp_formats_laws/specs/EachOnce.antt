-- The members of a list, each once.
use Rattle.std.specs.Prelude.{◌≡◌, ◌↔◌, List, [], ◌∷◌, ◌++◌}
use Rattle.sdp_formats_rounds.specs.Members.{IsIn}

-- No number occurs twice.
abbrev pub AreDistinct : {A : Type 0} → List A → Type 0
AreDistinct [] = Unit {0}
AreDistinct (x ∷ xs) = (IsIn x xs → ⊥) × AreDistinct xs

-- The first occurrence of one value precedes every occurrence of another: some prefix of the list contains the one and
-- not the other.
abbrev pub IsFirstBefore : {A : Type 0} → A → A → List A → Type 0
IsFirstBefore {A} x y xs =
    (front : List A) × (back : List A) × (xs ≡ front ++ back) × IsIn x front × (IsIn y front → ⊥)

-- A list has exactly the members of another, each once, in the order of their first occurrence.
pub record IsEachOnce {A : Type 0} (all once : List A) : Type 0 where
  pub members : (x : A) → IsIn x once ↔ IsIn x all
  pub distinct : AreDistinct once
  pub order : (x y : A) → IsFirstBefore x y once ↔ IsFirstBefore x y all
