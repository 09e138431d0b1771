-- Bytes of payload headers as they are read.
use Rattle.std.specs.Prelude.{ℕ, ◌/◌, ◌%◌, ◌==◌, Bool}

-- The bit with this weight.
abbrev pub has_bit : ℕ → ℕ → Bool
has_bit weight byte = byte / weight % 2 == 1
