-- Units of samples that are sent again, as samples of a second stream.
use Rattle.std.specs.Prelude.{◌≡◌, ℕ, List, [], ◌∷◌, map}
use Rattle.payload_core_base.specs.Law.{Coding, joined}
use Rattle.payload_core_base.specs.Packing.{Sender}

-- The bytes of a sample's units.
abbrev pub unit_bytes : Coding → Sender → ℕ → List ℕ → List (List ℕ)
unit_bytes coding s limit sample = map joined (coding.units s limit sample)

-- Texts are sent as samples in order, each well-formed and its own only unit; then the state after them.
abbrev pub AreSentWhole : Coding → ℕ → Sender → List (List ℕ) → Sender → Type 0
AreSentWhole coding limit t [] after = after ≡ t
AreSentWhole coding limit t (u ∷ us) after =
    coding.IsWellFormed limit u × (unit_bytes coding t limit u ≡ u ∷ [])
    × AreSentWhole coding limit (coding.after t limit u) us after

-- A second sender sends each unit of the first sender's sample whole, and still follows the first sender.
pub record ComesAgain (coding : Coding) (Follows : Sender → Sender → Type 0) (limit : ℕ) (first second : Sender)
    (sample : List ℕ) : Type 0 where
  pub after : Sender
  pub whole : AreSentWhole coding limit second (unit_bytes coding first limit sample) after
  pub follows : Follows (coding.after first limit sample) after

-- How a second sender's state relates to the first one's, and what a sample must satisfy at a limit besides being
-- well-formed.
abbrev pub Relation : Type 1
Relation = Sender → Sender → Type 0

abbrev pub IsKeptBy : Type 1
IsKeptBy = ℕ → List ℕ → Type 0

-- This holds of every second sender that follows a first one, for each well-formed sample that is kept.
abbrev pub GivesAgain : Coding → Relation → IsKeptBy → Type 0
GivesAgain coding Follows IsKept = (first second : Sender) (limit : ℕ) (sample : List ℕ) → Follows first second
    → coding.IsWellFormed limit sample → IsKept limit sample → ComesAgain coding Follows limit first second sample

-- The second sender has the first one's state.
abbrev pub IsSame : Relation
IsSame first second = second ≡ first

-- Every sample is kept.
abbrev pub AnySample : IsKeptBy
AnySample limit sample = Unit {0}
