-- The first payload type that is repeated.
use Rattle.std.specs.Prelude.{◌≡◌, ◌↔◌, ℕ, List, [], ◌∷◌, ◌++◌, Some, None}
use Rattle.rtp_media_exchange.specs.Refusals.{first_repeated}
use Rattle.sdp_formats_laws.specs.EachOnce.{AreDistinct}
use Rattle.sdp_formats_rounds.specs.Members.{IsIn}

-- The types before it are distinct, and it is one of them.
abbrev pub IsFirstRepeated : List ℕ → ℕ → Type 0
IsFirstRepeated types repeated = (front : List ℕ) × (back : List ℕ) × (types ≡ front ++ repeated ∷ back)
    × AreDistinct front × IsIn repeated front

-- A type is found if and only if it is the first to be repeated.
abbrev pub FirstIsRepeated : Type 0
FirstIsRepeated = (types : List ℕ) (repeated : ℕ)
    → (first_repeated [] types ≡ Some repeated) ↔ IsFirstRepeated types repeated

-- None is found if and only if no two types are equal.
abbrev pub NoneIsRepeated : Type 0
NoneIsRepeated = (types : List ℕ) → (first_repeated [] types ≡ None) ↔ AreDistinct types
