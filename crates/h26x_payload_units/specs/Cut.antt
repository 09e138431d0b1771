-- Cutting a byte stream into NAL units (ITU-T H.264 annex B): the text is a sequence of start codes and the stretches
-- between them.
use Rattle.std.specs.Prelude.{◌≡◌, ◌≢◌, ℕ, ◌<◌, ◌≤◌, List, [], ◌∷◌, ◌++◌, ◌⊎◌, length, replicate}

-- A start code (so many zeros, then 01) and what follows up to the next one.
pub record Piece : Type 0 where
  pub zeros : ℕ
  pub stretch : List ℕ

-- The stretch before the first start code, and the pieces after it.
pub record Layout : Type 0 where
  pub first : List ℕ
  pub pieces : List Piece

-- The text of pieces, one after the other.
abbrev pub joined : List Piece → List ℕ
joined [] = []
joined (p ∷ ps) = replicate p.zeros 0 ++ (1 ∷ (p.stretch ++ joined ps))

-- The text contains no start code (00 00 01).
abbrev pub HoldsNoCode : List ℕ → Type 0
HoldsNoCode text = (before behind : List ℕ) → text ≢ before ++ (0 ∷ 0 ∷ 1 ∷ behind)

abbrev pub EndsInNoZero : List ℕ → Type 0
EndsInNoZero text = (before : List ℕ) → text ≢ before ++ 0 ∷ []

-- A stretch contains no start code, and doesn't end in a zero if a start code follows: that zero would belong to the
-- start code.
abbrev pub IsStretch : List ℕ → List Piece → Type 0
IsStretch text [] = HoldsNoCode text
IsStretch text (p ∷ ps) = HoldsNoCode text × EndsInNoZero text

-- Each start code has two zeros or more.
abbrev pub ArePieces : List Piece → Type 0
ArePieces [] = Unit {0}
ArePieces (p ∷ ps) = (2 ≤ p.zeros) × (IsStretch p.stretch ps × ArePieces ps)

-- The text has this layout.
pub record IsLaidOut (text : List ℕ) (layout : Layout) : Type 0 where
  pub put_together : text ≡ layout.first ++ joined layout.pieces
  pub is_first : IsStretch layout.first layout.pieces
  pub are_pieces : ArePieces layout.pieces

-- A stretch is a unit unless it is empty.
abbrev pub with_unit : List ℕ → List (List ℕ) → List (List ℕ)
with_unit [] units = units
with_unit (b ∷ bs) units = (b ∷ bs) ∷ units

abbrev pub units_of_pieces : List Piece → List (List ℕ)
units_of_pieces [] = []
units_of_pieces (p ∷ ps) = with_unit p.stretch (units_of_pieces ps)

-- The units are the stretches after start codes; a text without a start code is one unit.
abbrev pub units_of_layout : List ℕ → List Piece → List (List ℕ)
units_of_layout first [] = with_unit first []
units_of_layout first (p ∷ ps) = units_of_pieces (p ∷ ps)

-- A text is cut into these units.
pub record IsCut (text : List ℕ) (units : List (List ℕ)) : Type 0 where
  pub layout : Layout
  pub is_laid_out : IsLaidOut text layout
  pub are_units : units ≡ units_of_layout layout.first layout.pieces

-- A unit is not empty, and contains no start code.
pub record IsUnit (unit : List ℕ) : Type 0 where
  pub is_nonempty : 0 < length unit
  pub holds_none : HoldsNoCode unit

-- These are units, and none but the last ends in a zero.
abbrev pub AreUnits : List (List ℕ) → Type 0
AreUnits [] = Unit {0}
AreUnits (u ∷ []) = IsUnit u
AreUnits (u ∷ v ∷ us) = (IsUnit u × EndsInNoZero u) × AreUnits (v ∷ us)

-- The text of units, each after 00 00 00 01.
abbrev pub text_of : List (List ℕ) → List ℕ
text_of [] = []
text_of (u ∷ us) = 0 ∷ 0 ∷ 0 ∷ 1 ∷ (u ++ text_of us)

-- The text begins with a start code.
pub record BeginsWithCode (text : List ℕ) : Type 0 where
  pub zeros : ℕ
  pub behind : List ℕ
  pub enough : 2 ≤ zeros
  pub put_together : text ≡ replicate zeros 0 ++ (1 ∷ behind)

-- The unit ends here: at the end of the text, or at a start code that takes in all zeros before its 01.
abbrev pub ReachesTo : List ℕ → List ℕ → Type 0
ReachesTo unit behind = (behind ≡ []) ⊎ (BeginsWithCode behind × EndsInNoZero unit)
