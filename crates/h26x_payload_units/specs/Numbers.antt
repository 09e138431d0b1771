-- Decoding order numbers (RFC 7798 4.4, RFC 9328 4.3): a count of the units sent, modulo 65,536.
use Rattle.std.specs.Prelude.{◌≡◌, ℕ, ◌+◌, ◌/◌, ◌%◌, ◌<◌, Bool, List, [], ◌∷◌, ◌++◌, length, if◌then◌else◌}
use Rattle.std.specs.List.{flat_map}
use Rattle.h26x_payload_units.specs.Departures.{Departure, units_in}
use Rattle.h26x_payload_units.specs.declared.layout.Layout.{Layout}
use Rattle.h26x_payload_units.specs.declared.layout.Layout.TheVariants.{H265, H266}

-- A departure with the decoding order number of its first unit.
pub record Numbered : Type 0 where
  pub number : ℕ
  pub departure : Departure

abbrev pub number_behind : ℕ → Departure → ℕ
number_behind n d = (n + length (units_in d)) % 65536

-- The departures with their decoding order numbers, the first being n.
abbrev pub numbered : ℕ → List Departure → List Numbered
numbered n [] = []
numbered n (d ∷ ds) = record { number = n; departure = d } ∷ numbered (number_behind n d) ds

-- The number of the next unit.
abbrev pub number_after : ℕ → List Departure → ℕ
number_after n [] = n
number_after n (d ∷ ds) = number_after (number_behind n d) ds

-- After departures, the next number is n plus the number of their units, modulo 65,536, and later departures continue
-- from it.
abbrev pub NumbersLaw : Type 0
NumbersLaw = (n : ℕ) (ds es : List Departure) → n < 65536
    → (number_after n ds ≡ (n + length (flat_map units_in ds)) % 65536)
    × (numbered n (ds ++ es) ≡ numbered n ds ++ numbered (number_after n ds) es)

-- DONL, if decoding order numbers are sent: two bytes.
abbrev pub donl_bytes : Bool → ℕ → List ℕ
donl_bytes donl number = if donl then number / 256 ∷ number % 256 ∷ [] else []

-- DOND, in H.265 aggregation packets with decoding order numbers: one byte, always 0, since the numbers are
-- consecutive.
abbrev pub dond_bytes : Layout → Bool → List ℕ
dond_bytes H265 donl = if donl then 0 ∷ [] else []
dond_bytes H266 donl = []

-- How many bytes DONL and DOND have.
abbrev pub donl_size : Bool → ℕ
donl_size donl = if donl then 2 else 0

abbrev pub dond_size : Layout → Bool → ℕ
dond_size H265 donl = if donl then 1 else 0
dond_size H266 donl = 0
