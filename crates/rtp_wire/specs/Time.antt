use Rattle.std.specs.Prelude.{◌≡◌, List, Result, Ok, Err, ◌<◌, max, nat_le, ◌&&◌, ◌+◌, ◌-◌, Bool, ℕ, ◌*◌, ◌/◌, ◌^◌}
use Rattle.std.specs.Prelude.{◌==◌, nat_lt, if◌then◌else◌, Option, Some, None}
use Rattle.std.specs.Str.Parse.{ParsesUnsigned}
use Rattle.std.specs.declared.num.ParseIntError.{ParseIntError}
use Rattle.rtp_wire.specs.declared.frequency.ParseFrequencyError.{ParseFrequencyError}

-- A clock rate from a number of ticks; 0 is not a clock rate.
abbrev pub frequency_of : ℕ → Option ℕ
frequency_of ticks = if ticks == 0 then None else Some ticks

-- A number of ticks of a clock with this many ticks a second.
pub record Time : Type 0 where
  pub ticks : ℕ
  pub rate : ℕ

-- A time in ticks of another clock, rounded down.
abbrev pub rebased_ticks : Time → ℕ → ℕ
rebased_ticks t rate = t.ticks * rate / t.rate

abbrev pub rebased : Time → ℕ → Time
rebased t rate = record { ticks = rebased_ticks t rate; rate = rate }

-- The same, if its ticks fit in 64 bits.
abbrev pub checked_rebased : Time → ℕ → Option Time
checked_rebased t rate = if nat_lt (rebased_ticks t rate) (2 ^ 64) then Some (rebased t rate) else None

-- The greater of two clock rates.
abbrev pub common_rate : Time → Time → ℕ
common_rate a b = max a.rate b.rate

-- Two times in ticks of the faster clock.
abbrev pub first_ticks : Time → Time → ℕ
first_ticks a b = rebased_ticks a (common_rate a b)

abbrev pub second_ticks : Time → Time → ℕ
second_ticks a b = rebased_ticks b (common_rate a b)

-- Both fit in 64 bits in ticks of the faster clock.
abbrev pub BothFit : Time → Time → Type 0
BothFit a b = (first_ticks a b < 2 ^ 64) × (second_ticks a b < 2 ^ 64)

abbrev pub both_fit : Time → Time → Bool
both_fit a b = nat_lt (first_ticks a b) (2 ^ 64) && nat_lt (second_ticks a b) (2 ^ 64)

-- The sum and the difference in ticks of the faster clock; a negative difference is 0.
abbrev pub sum_of : Time → Time → Time
sum_of a b = record { ticks = first_ticks a b + second_ticks a b; rate = common_rate a b }

abbrev pub difference_of : Time → Time → Time
difference_of a b = record { ticks = first_ticks a b - second_ticks a b; rate = common_rate a b }

-- The difference, if both fit and it isn't negative.
abbrev pub checked_difference : Time → Time → Option Time
checked_difference a b = if both_fit a b && nat_le (second_ticks a b) (first_ticks a b) then Some (difference_of a b)
    else None

-- A text as a clock rate: a 32-bit number above 0.
abbrev pub frequency_result : {E F : Type 0} → F → Result ℕ E → Result ℕ F
frequency_result bad (Ok n) = if n == 0 then Err bad else Ok n
frequency_result bad (Err e) = Err bad

pub record ParsesFrequency (text : List ℕ) (result : Result ℕ ParseFrequencyError) : Type 0 where
  pub number : Result ℕ ParseIntError
  pub parsed : ParsesUnsigned 32 10 text number
  pub is : result ≡ frequency_result (record {}) number
