use Rattle.std.proofs.Common.{◌≡◌, map}
use Rattle.benchmarks.specs.Tallies.{tally_with_all}
use Rattle.benchmarks.proofs.cut.CuttingRound.round.Given as goal

-- the units so far are counted
abbrev pub invariant-loop-unit : goal.invariant-loop-unit
invariant-loop-unit l = l.tally ≡ tally_with_all l.fn.tally (map (λ u. u.now) l.yielded)
