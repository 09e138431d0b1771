use Rattle.std.proofs.Common.{◌≤◌, ◌-◌, length}
use Rattle.h26x_payload_units.specs.Places.{HasNoCodeBefore}
use Rattle.h26x_payload_units.proofs.places.code_place.Given as goal

abbrev pub invariant-loop-i : goal.invariant-loop-i
invariant-loop-i l = (l.i ≤ length l.text) × HasNoCodeBefore l.text l.i

abbrev pub decreases-loop-i : goal.decreases-loop-i
decreases-loop-i l = length l.text - l.i
