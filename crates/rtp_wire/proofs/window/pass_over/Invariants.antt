use Rattle.rtp_wire.proofs.WindowLaws.{Passes}
use Rattle.rtp_wire.proofs.window.pass_over.Given as goal

abbrev pub invariant-loop-below : goal.invariant-loop-below
invariant-loop-below l = Passes l.from l.fn.slots l.below l.slots
