use Rattle.std.proofs.Common.{◌≡◌, ◌+◌, length}
use Rattle.std.specs.List.{flat_map}
use Rattle.h26x_payload_units.specs.Aggregates.{aggregated, sized}
use Rattle.h26x_payload_formats.proofs.h264_receiver.sized_len.Given as goal

-- what was passed, and the units of the rest
abbrev pub invariant-loop-rest : goal.invariant-loop-rest
invariant-loop-rest l = l.len + length (flat_map sized (aggregated 0 0 l.rest).units)
    ≡ length (flat_map sized (aggregated 0 0 l.body).units)

abbrev pub decreases-loop-rest : goal.decreases-loop-rest
decreases-loop-rest l = length l.rest
