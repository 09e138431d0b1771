-- The first row that a test accepts.
use Rattle.std.specs.Prelude.{◌≡◌, ◌⊎◌, Bool, true, false, List, [], ◌∷◌, Option, Some, None}
use Rattle.sdp_formats_rows.specs.Rows.{Row}

-- The test is called on each row in turn, up to the first it accepts; its state may change with each call.
abbrev pub Finds : {F : Type 0} → (F → Row → Bool → F → Type 0) → F → List Row → Option Row → Type 0
Finds Tells f [] found = found ≡ None
Finds {F} Tells f (row ∷ rows) found = (next : F)
    × ((Tells f row true next × (found ≡ Some row)) ⊎ (Tells f row false next × Finds Tells next rows found))
