use Rattle.std.proofs.Common.{◌-◌}
use Rattle.h26x_payload_units.specs.Places.{HasNoCodeBetween}
use Rattle.h26x_payload_units.proofs.places.place_between.Given as goal

abbrev pub invariant-loop-i : goal.invariant-loop-i
invariant-loop-i l = HasNoCodeBetween l.text l.start l.i

abbrev pub decreases-loop-i : goal.decreases-loop-i
decreases-loop-i l = l.end - l.i
