use Rattle.std.proofs.Common.{◌≡◌, length}
use Rattle.h26x_payload_units.specs.Units.{without_zeros}
use Rattle.h26x_payload_units.proofs.places.without_zeros.Given as goal

-- the zeros that were left out change nothing
abbrev pub invariant-loop-last : goal.invariant-loop-last
invariant-loop-last l = without_zeros l.kept ≡ without_zeros l.text

abbrev pub decreases-loop-last : goal.decreases-loop-last
decreases-loop-last l = length l.kept
