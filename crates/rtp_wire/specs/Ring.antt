use Rattle.std.specs.Prelude.{ℕ, ◌+◌, ◌-◌, ◌%◌, ◌/◌, ◌==◌, Bool, List, filter, slice_index}
use Rattle.std.specs.Int.{bit_at}
use Rattle.std.specs.Ordering.{nat_cmp}
use Rattle.std.specs.List.{range_with_len}
use Rattle.std.specs.FinSet as set
use Rattle.rtp_wire.specs.Replay.{reach, reach_below}

-- Whether a slot is set; each word holds 64 slots.
abbrev pub is_set : List ℕ → ℕ → Bool
is_set words slot = bit_at (slice_index words (slot / 64)) (slot % 64) == 1

-- Whether a number is recorded, by its slot in a ring of `reach`.
abbrev pub is_recorded : List ℕ → ℕ → Bool
is_recorded words y = is_set words (y % reach)

-- The recorded numbers less than `reach` below the greatest.
abbrev pub numbers_of : ℕ → List ℕ → set.FinSet nat_cmp
numbers_of greatest words = set.from_list
    (filter (is_recorded words) (range_with_len (greatest - reach_below) (greatest + 1 - (greatest - reach_below))))
