use Rattle.std.proofs.Common.{◌≡◌, length}
use Rattle.std.specs.List.{list_any}
use Rattle.h26x_payload_units.specs.Aggregates.{aggregated}
use Rattle.h26x_payload_formats.specs.H264Reading.{is_of_type}
use Rattle.h26x_payload_formats.proofs.h264_receiver.holds_type.Given as goal

-- what was passed over is of no such type
abbrev pub invariant-loop-rest : goal.invariant-loop-rest
invariant-loop-rest l = list_any (is_of_type l.nalu_type) (aggregated 0 0 l.rest).units
    ≡ list_any (is_of_type l.nalu_type) (aggregated 0 0 l.body).units

abbrev pub decreases-loop-rest : goal.decreases-loop-rest
decreases-loop-rest l = length l.rest
