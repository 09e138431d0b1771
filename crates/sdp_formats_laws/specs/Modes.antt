-- The AMR-WB modes that a text lists (RFC 4867 8.2).
use Rattle.std.specs.Prelude.{◌≡◌, ◌↔◌, ℕ, ◌≤◌, ◌^◌, List, Some, None}
use Rattle.std.specs.Int.{bit_at}
use Rattle.std.specs.Str.{trim}
use Rattle.sdp_formats_grammar.specs.Split.{parts}
use Rattle.sdp_formats_values.specs.Numbers.{modes_of, numeral_below}
use Rattle.sdp_formats_rounds.specs.Members.{IsIn}

-- A part is a mode (0 to 8), with optional blanks around it.
abbrev pub IsMode : ℕ → List ℕ → Type 0
IsMode mode part = (numeral_below (2 ^ 8) 10 (trim part) ≡ Some mode) × (mode ≤ 8)

-- A part between commas is this mode.
abbrev pub IsListed : ℕ → List ℕ → Type 0
IsListed mode text = (part : List ℕ) × IsIn part (parts 44 text) × IsMode mode part

-- Every part is a mode, and exactly the listed modes have their bits set.
pub record AreModes (text : List ℕ) (modes : ℕ) : Type 0 where
  pub each : (part : List ℕ) → IsIn part (parts 44 text) → (mode : ℕ) × IsMode mode part
  pub bits : (mode : ℕ) → (bit_at modes mode ≡ 1) ↔ IsListed mode text

abbrev pub ModesAreListed : Type 0
ModesAreListed = (text : List ℕ) (modes : ℕ) → (modes_of text ≡ Some modes) ↔ AreModes text modes

-- There are none if and only if some part is not a mode.
abbrev pub OthersAreNone : Type 0
OthersAreNone = (text : List ℕ) → (modes_of text ≡ None)
    ↔ ((part : List ℕ) × IsIn part (parts 44 text) × ((mode : ℕ) → IsMode mode part → ⊥))
