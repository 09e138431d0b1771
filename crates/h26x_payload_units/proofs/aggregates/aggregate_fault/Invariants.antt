use Rattle.std.proofs.Common.{◌≡◌, length}
use Rattle.h26x_payload_units.specs.Aggregates.{aggregated}
use Rattle.h26x_payload_units.proofs.aggregates.aggregate_fault.Given as goal

-- what was passed over is whole
abbrev pub invariant-loop-rest : goal.invariant-loop-rest
invariant-loop-rest l = (aggregated l.lead l.later l.rest).fault ≡ (aggregated l.initial.lead l.later l.body).fault

abbrev pub decreases-loop-rest : goal.decreases-loop-rest
decreases-loop-rest l = length l.rest
