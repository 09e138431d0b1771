use Rattle.std.proofs.Common.{◌≡◌, map}
use Rattle.benchmarks.specs.Tallies.{tally_with_all}
use Rattle.benchmarks.proofs.redundant.ReadingRedRound.round.Given as goal

-- the payloads so far are counted
abbrev pub invariant-loop-block : goal.invariant-loop-block
invariant-loop-block l = l.tally ≡ tally_with_all l.fn.tally (map (λ b. b.payload.now) l.yielded)
