use Rattle.std.proofs.Common.{◌≡◌, ◌≤◌, length}
use Rattle.h26x_payload_units.specs.UnitsLeft.{units_left}
use Rattle.h26x_payload_units.proofs.iteration.NalUnitsIterator.next.Given as goal

-- only empty stretches were left out, and no more of the text is left
abbrev pub invariant-loop-stretch : goal.invariant-loop-stretch
invariant-loop-stretch l = (units_left l.self ≡ units_left l.fn.self)
    × (length l.self.rest.now ≤ length l.fn.self.rest.now)

abbrev pub decreases-loop-stretch : goal.decreases-loop-stretch
decreases-loop-stretch l = length l.self.rest.now
