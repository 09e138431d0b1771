use Rattle.std.proofs.Common.{◌≡◌, ◌++◌, drop}
use Rattle.sdp_formats_values.proofs.pairs.Pair.clone_all.Given as goal

-- the copies so far and the values that are left
abbrev pub invariant-loop-pair : goal.invariant-loop-pair
invariant-loop-pair l = l.copies.items ++ drop l.pair-index l.pairs ≡ l.fn.pairs
