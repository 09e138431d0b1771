-- Match points: up to 100.
use Rattle.std.specs.Prelude.{ℕ, ◌+◌, ◌-◌, Bool, Option, Some, None, if◌then◌else◌}

-- These points if a test holds, otherwise no match.
abbrev pub points_if : Bool → ℕ → Option ℕ
points_if holds points = if holds then Some points else None

abbrev pub distance : ℕ → ℕ → ℕ
distance a b = (a - b) + (b - a)

-- Different levels cost their distance in the level table.
abbrev pub level_points : ℕ → ℕ → ℕ
level_points place other = 100 - distance place other
