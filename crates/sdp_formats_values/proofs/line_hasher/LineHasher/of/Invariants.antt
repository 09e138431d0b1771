use Rattle.std.proofs.Common.{◌≡◌, drop, fold}
use Rattle.std.specs.Hash.DefaultHasher.{write}
use Rattle.sdp_formats_values.specs.Hashed.{with_keys}
use Rattle.sdp_formats_values.proofs.line_hasher.LineHasher.of.Given as goal

-- the keys so far, and then those that are left
abbrev pub invariant-loop-pair : goal.invariant-loop-pair
invariant-loop-pair l =
    fold (λ hasher pair. write hasher pair.key) l.hasher (drop l.pair-index l.pairs) ≡ with_keys l.pairs
