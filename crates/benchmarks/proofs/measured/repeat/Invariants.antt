use Rattle.benchmarks.specs.Rounds.{Repeats}
use Rattle.benchmarks.specs.Tallies.{empty_tally}
use Rattle.benchmarks.proofs.measured.repeat.Given as goal

-- the rounds that were done so far
abbrev pub invariant-loop-number : goal.invariant-loop-number
invariant-loop-number g l = Repeats g.R.Round.counts l.number l.fn.round empty_tally l.round l.tally
