-- The units of a text, by recursion from its end.
use Rattle.std.specs.Prelude.{◌≡◌, ◌↔◌, ℕ, suc, ◌==◌, ◌&&◌, Bool, List, [], ◌∷◌, ◌++◌, if◌then◌else◌}
use Rattle.h26x_payload_units.specs.Cut.{AreUnits, IsCut, IsUnit, Layout, Piece, ReachesTo, text_of, units_of_layout}
use Rattle.h26x_payload_units.specs.Cut.{units_of_pieces, with_unit}

-- The three bytes that end a start code.
abbrev pub is_code : ℕ → ℕ → ℕ → Bool
is_code a b c = (a == 0) && ((b == 0) && (c == 1))

-- A byte in front of a stretch and pieces: it completes a start code, adds a zero to the first one, or belongs to the
-- stretch.
abbrev pub with_byte : ℕ → List ℕ → List Piece → Layout
with_byte a [] [] = record { first = a ∷ []; pieces = [] }
with_byte a [] (p ∷ ps) =
    if a == 0 then record { first = []; pieces = record { zeros = suc p.zeros; stretch = p.stretch } ∷ ps }
    else record { first = a ∷ []; pieces = p ∷ ps }
with_byte a (b ∷ []) ps = record { first = a ∷ b ∷ []; pieces = ps }
with_byte a (b ∷ c ∷ more) ps =
    if is_code a b c then record { first = []; pieces = record { zeros = 2; stretch = more } ∷ ps }
    else record { first = a ∷ b ∷ c ∷ more; pieces = ps }

-- How a text is put together.
abbrev pub layout_of : List ℕ → Layout
layout_of [] = record { first = []; pieces = [] }
layout_of (a ∷ text) = let layout = layout_of text in with_byte a layout.first layout.pieces

-- The units of a text.
unfoldable pub units_of : List ℕ → List (List ℕ)
units_of text = let layout = layout_of text in units_of_layout layout.first layout.pieces

-- The units of a text that follows a start code.
unfoldable pub units_behind : List ℕ → List (List ℕ)
units_behind text = let layout = layout_of text in with_unit layout.first (units_of_pieces layout.pieces)

-- A text without the zeros at its end.
abbrev pub with_front : ℕ → List ℕ → List ℕ
with_front a [] = if a == 0 then [] else a ∷ []
with_front a (b ∷ bs) = a ∷ b ∷ bs

abbrev pub without_zeros : List ℕ → List ℕ
without_zeros [] = []
without_zeros (a ∷ text) = with_front a (without_zeros text)

-- Every text is cut in exactly one way.
abbrev pub CutLaw : Type 0
CutLaw = (text : List ℕ) (units : List (List ℕ)) → IsCut text units ↔ (units ≡ units_of text)

-- What is handed out are units.
abbrev pub UnitsLaw : Type 0
UnitsLaw = (text : List ℕ) → AreUnits (units_of text)

-- Units joined with start codes are cut back into the same units.
abbrev pub ComesBack : Type 0
ComesBack = (units : List (List ℕ)) → AreUnits units → units_of (text_of units) ≡ units

-- The bytes between a start code and the next one (or the end) are one unit, in its place: after the units before it,
-- before those after it.
abbrev pub PlaceLaw : Type 0
PlaceLaw = (before unit behind : List ℕ) → IsUnit unit → ReachesTo unit behind
    → units_of (before ++ (0 ∷ 0 ∷ 1 ∷ (unit ++ behind))) ≡ units_of (before ++ (0 ∷ 0 ∷ 1 ∷ []))
    ++ (unit ∷ units_of behind)
