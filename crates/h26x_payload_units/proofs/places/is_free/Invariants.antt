use Rattle.std.proofs.Common.{◌+◌, ◌<◌}
use Rattle.h26x_payload_units.specs.Places.{HasNoCodeBetween}
use Rattle.h26x_payload_units.proofs.places.is_free.Given as goal

abbrev pub invariant-loop-k : goal.invariant-loop-k
invariant-loop-k l = 0 < l.least → HasNoCodeBetween l.text l.start (l.start + l.k)
