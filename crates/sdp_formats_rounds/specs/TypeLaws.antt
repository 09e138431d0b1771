-- What rounds preserve of rows' payload types.
use Rattle.std.specs.Prelude.{◌≡◌, ℕ, Bool, true, false, not, List, Ok, filter}
use Rattle.std.specs.List.{flat_map, list_all}
use Rattle.sdp_formats_rows.specs.Plain.{has_plain_types}
use Rattle.sdp_formats_rows.specs.Rows.{Row}
use Rattle.sdp_formats_rounds.specs.Laws.{Section, is_among, is_distinct, rounds}
use Rattle.sdp_formats_rounds.specs.Rounds.{round}
use Rattle.sdp_formats_rounds.specs.Types.{locked_types, types_of}

-- A round keeps payload types below 128.
abbrev pub TypesStaySmall : Type 0
TypesStaySmall = (dictated : Bool) (remote rows after : List Row) → list_all has_plain_types rows ≡ true
    → round dictated remote rows ≡ Ok after → list_all has_plain_types after ≡ true

-- The types of rows, row by row: type, RTX type, RED type.
abbrev pub types_in : List Row → List ℕ
types_in rows = flat_map types_of rows

-- The types of the rows that aren't locked.
unfoldable pub unlocked_types : List Row → List ℕ
unlocked_types rows = flat_map types_of (filter (λ row. not row.locked) rows)

-- A round keeps them distinct.
abbrev pub UnlockedTypesStayApart : Type 0
UnlockedTypesStayApart = (dictated : Bool) (remote rows after : List Row) → is_distinct (unlocked_types rows) ≡ true
    → round dictated remote rows ≡ Ok after → is_distinct (unlocked_types after) ≡ true

-- All rows have distinct types if the locked ones do, the unlocked ones do, and no type is shared between them; and if
-- all do, the unlocked ones do.
abbrev pub AllAreApart : Type 0
AllAreApart = (rows : List Row) → is_distinct (locked_types rows) ≡ true → is_distinct (unlocked_types rows) ≡ true
    → ((t : ℕ) → is_among (unlocked_types rows) t ≡ true → is_among (locked_types rows) t ≡ false)
    → is_distinct (types_in rows) ≡ true

abbrev pub UnlockedAreApart : Type 0
UnlockedAreApart = (rows : List Row) → is_distinct (types_in rows) ≡ true → is_distinct (unlocked_types rows) ≡ true

-- If rows have distinct types, they still do after any rounds, locked or not.
abbrev pub RoundsKeepTypesApart : Type 0
RoundsKeepTypesApart = (sections : List Section) (rows after : List Row) → is_distinct (types_in rows) ≡ true
    → rounds sections rows ≡ Ok after → is_distinct (types_in after) ≡ true
