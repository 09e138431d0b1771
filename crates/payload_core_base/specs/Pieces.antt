-- Samples cut by length alone.
use Rattle.std.specs.Prelude.{ℕ, ◌+◌, ◌-◌, ◌*◌, ◌/◌, List, map, length, take, drop}
use Rattle.std.specs.List.{range_with_len}

-- A text has this many pieces of the limit's size, the last of which may be shorter: the quotient rounded up. None at
-- limit 0.
abbrev pub piece_count : ℕ → ℕ → ℕ
piece_count size limit = (size + limit - 1) / limit

-- The piece with this index: at most `limit` bytes after the pieces before it.
abbrev pub piece_at : ℕ → List ℕ → ℕ → List ℕ
piece_at limit text k = take limit (drop (k * limit) text)

-- The pieces of a text at a limit, in order.
unfoldable pub pieces : ℕ → List ℕ → List (List ℕ)
pieces limit text = map (piece_at limit text) (range_with_len 0 (piece_count (length text) limit))
