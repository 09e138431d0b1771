-- Protocols sharing one port, distinguished by their first bytes (RFC 7983 7, RFC 5761 4).
use Rattle.std.specs.Prelude.{ℕ, ◌<◌, ◌≤◌, List, length, slice_index}

-- The byte at this index exists and is in this range.
abbrev pub IsByteWithin : List ℕ → ℕ → ℕ → ℕ → Type 0
IsByteWithin bytes at low high =
    (at < length bytes) × (low ≤ slice_index bytes at) × (slice_index bytes at ≤ high)
