-- Start codes by position.
use Rattle.std.specs.Prelude.{◌≡◌, ℕ, ◌+◌, ◌<◌, ◌≤◌, List, slice_index}

-- 00 00 01 is at this position. A byte past the end counts as 0.
abbrev pub HasCodeAt : List ℕ → ℕ → Type 0
HasCodeAt text place = (slice_index text place ≡ 0)
    × ((slice_index text (place + 1) ≡ 0) × (slice_index text (place + 2) ≡ 1))

abbrev pub HasNoCodeBefore : List ℕ → ℕ → Type 0
HasNoCodeBefore text place = (k : ℕ) → k < place → HasCodeAt text k → ⊥

-- No start code begins at or after one position and before another.
abbrev pub HasNoCodeBetween : List ℕ → ℕ → ℕ → Type 0
HasNoCodeBetween text start end = (k : ℕ) → start ≤ k → k < end → HasCodeAt text k → ⊥
