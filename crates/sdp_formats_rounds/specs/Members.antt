-- Members of lists.
use Rattle.std.specs.Prelude.{◌≡◌, ◌⊎◌, List, [], ◌∷◌}

-- It is one of them.
abbrev pub IsIn : {A : Type 0} → A → List A → Type 0
IsIn x [] = ⊥
IsIn x (y ∷ ys) = (y ≡ x) ⊎ IsIn x ys

-- Each of the first list is one of the second.
abbrev pub AreIn : {A : Type 0} → List A → List A → Type 0
AreIn [] ys = Unit {0}
AreIn (x ∷ xs) ys = IsIn x ys × AreIn xs ys

-- It holds of each of them.
abbrev pub IsEach : {A : Type 0} → (A → Type 0) → List A → Type 0
IsEach P [] = Unit {0}
IsEach P (x ∷ xs) = P x × IsEach P xs
