-- Rows chosen from others, each payload type once, as an answer lists them.
use Rattle.std.specs.Prelude.{◌≡◌, ◌==◌, ℕ, Bool, true, List, [], ◌∷◌, ◌++◌, fold, if◌then◌else◌}
use Rattle.std.specs.List.{list_all, list_any}
use Rattle.sdp_formats_rows.specs.Rows.{Row}
use Rattle.sdp_formats_rounds.specs.Laws.{is_distinct}
use Rattle.sdp_formats_rounds.specs.Members.{AreIn}
use Rattle.sdp_formats_rounds.specs.TypeLaws.{types_in}

abbrev pub has_pt : List Row → ℕ → Bool
has_pt rows pt = list_any (λ row. row.pt == pt) rows

-- The rows plus one, unless its payload type is already there.
unfoldable pub with_once : List Row → Row → List Row
with_once rows row = if has_pt rows row.pt then rows else rows ++ row ∷ []

abbrev pub chosen : List Row → List Row
chosen picks = fold with_once [] picks

-- If all rows have distinct payload types, so have the chosen ones.
abbrev pub ChosenAreApart : Type 0
ChosenAreApart = (rows picks : List Row) → is_distinct (types_in rows) ≡ true → AreIn picks rows
    → is_distinct (types_in (chosen picks)) ≡ true

-- Any property that all rows have, the chosen ones have.
abbrev pub ChosenAreAsAll : Type 0
ChosenAreAsAll = (p : Row → Bool) (rows picks : List Row) → list_all p rows ≡ true → AreIn picks rows
    → list_all p (chosen picks) ≡ true
