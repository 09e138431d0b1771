use Rattle.std.proofs.Common.{◌≡◌, ◌++◌, length}
use Rattle.std.specs.List.{flat_map}
use Rattle.h26x_payload_units.specs.Aggregates.{aggregated}
use Rattle.h26x_payload_units.specs.Fragments.{behind_code}
use Rattle.h26x_payload_units.proofs.aggregates.aggregated_units.Given as goal

-- what is written, and the units of the rest after it
abbrev pub invariant-loop-rest : goal.invariant-loop-rest
invariant-loop-rest l = l.written.items ++ flat_map behind_code (aggregated l.lead l.later l.rest).units
    ≡ flat_map behind_code (aggregated l.initial.lead l.later l.body).units

abbrev pub decreases-loop-rest : goal.decreases-loop-rest
decreases-loop-rest l = length l.rest
