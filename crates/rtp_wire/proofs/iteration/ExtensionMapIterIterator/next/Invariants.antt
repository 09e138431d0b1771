use Rattle.std.proofs.Common.{◌≡◌, ◌-◌}
use Rattle.rtp_wire.specs.Iteration.{entries_left}
use Rattle.rtp_wire.proofs.iteration.ExtensionMapIterIterator.next.Given as goal

-- nothing was left out
abbrev pub invariant-loop-self : goal.invariant-loop-self
invariant-loop-self l = entries_left l.self ≡ entries_left l.fn.self

abbrev pub decreases-loop-self : goal.decreases-loop-self
decreases-loop-self l = 17 - l.self.id
