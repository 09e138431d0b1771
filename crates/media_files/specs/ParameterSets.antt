-- NAL units in session texts (RFC 6184 8.1, RFC 7798 7.1, RFC 9328 7.2).
use Rattle.std.specs.Prelude.{◌≡◌, ◌==◌, ◌<◌, ℕ, List, length}
use Rattle.std.specs.List.{All, slice_split}
use Rattle.base64.specs.Engines.{standard}
use Rattle.base64.specs.GeneralPurpose.{IsBytes, encode_of}

-- The texts between the commas.
abbrev pub texts_of : List ℕ → List (List ℕ)
texts_of text = slice_split (λ b. b == 44) text

-- A text is the base64 of a unit of at least one byte (RFC 4648 4).
abbrev pub IsUnitText : List ℕ → Type 0
IsUnitText text = (unit : List ℕ) × IsBytes unit × (0 < length unit) × (text ≡ encode_of standard unit)

-- A text is the base64 of no unit.
abbrev pub IsNoUnitText : List ℕ → Type 0
IsNoUnitText text = IsUnitText text → ⊥

-- Not all texts are those of units.
abbrev pub AreNotUnitTexts : List (List ℕ) → Type 0
AreNotUnitTexts texts = All IsUnitText texts → ⊥
