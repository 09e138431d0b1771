-- How large sizes of few bytes are.
use Rattle.std.specs.Prelude.{ℕ, zero, suc, ◌*◌}

-- Sizes of k bytes are below 128^k.
abbrev pub bound_of : ℕ → ℕ
bound_of zero = 1
bound_of (suc k) = 128 * bound_of k
