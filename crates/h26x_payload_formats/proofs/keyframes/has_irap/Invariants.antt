use Rattle.std.proofs.Common.{◌≡◌, length}
use Rattle.std.specs.List.{list_any}
use Rattle.h26x_payload_units.specs.Aggregates.{aggregated}
use Rattle.h26x_payload_formats.specs.Reading.{is_irap_unit}
use Rattle.h26x_payload_formats.proofs.keyframes.has_irap.Given as goal

-- what was passed over is none
abbrev pub invariant-loop-rest : goal.invariant-loop-rest
invariant-loop-rest l = list_any (is_irap_unit l.layout) (aggregated l.lead l.later l.rest).units
    ≡ list_any (is_irap_unit l.layout) (aggregated l.initial.lead l.later l.body).units

abbrev pub decreases-loop-rest : goal.decreases-loop-rest
decreases-loop-rest l = length l.rest
