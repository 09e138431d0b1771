use Rattle.std.proofs.Common.{◌≡◌, [], drop}
use Rattle.sdp_formats_values.specs.Params.{with_pairs}
use Rattle.sdp_formats_values.proofs.several.settled.Given as goal

-- the entries so far, with the pairs that are left
abbrev pub invariant-loop-pair : goal.invariant-loop-pair
invariant-loop-pair l = with_pairs l.entries.entries (drop l.pair-index l.fn.pairs) ≡ with_pairs [] l.fn.pairs
