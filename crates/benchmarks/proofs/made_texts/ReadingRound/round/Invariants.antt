use Rattle.std.proofs.Common.{length}
use Rattle.benchmarks.specs.MadeTexts.{CountsFirst}
use Rattle.benchmarks.proofs.made_texts.ReadingRound.round.Given as goal

-- the sections so far were gone through
abbrev pub invariant-loop-section : goal.invariant-loop-section
invariant-loop-section l = CountsFirst l.section-items (length l.fn.self.text.now) l.section-index l.fn.tally l.tally
