-- The last member of a list that gives something.
use Rattle.std.specs.Prelude.{◌≡◌, List, ◌∷◌, ◌++◌, Option, Some, None}
use Rattle.sdp_formats_rounds.specs.Members.{IsIn}

-- No member gives any.
abbrev pub NoneGives : {A B : Type 0} → (A → B → Type 0) → List A → Type 0
NoneGives {A} {B} gives xs = (x : A) (y : B) → IsIn x xs → gives x y → ⊥

-- A member gives it, and no later one gives any.
abbrev pub IsLast : {A B : Type 0} → (A → B → Type 0) → List A → B → Type 0
IsLast {A} {B} gives xs y = (front : List A) × (x : A) × (back : List A)
    × (xs ≡ front ++ x ∷ back) × gives x y × NoneGives gives back

-- What is given last, if any is.
abbrev pub IsLastIfAny : {A B : Type 0} → (A → B → Type 0) → List A → Option B → Type 0
IsLastIfAny gives xs None = NoneGives gives xs
IsLastIfAny gives xs (Some y) = IsLast gives xs y
