use Rattle.h26x_payload_formats.proofs.AggregateLaw.{aggregate_law}
use Rattle.h26x_payload_formats.proofs.H264FragmentLaw.{fragment_law}
use Rattle.h26x_payload_formats.proofs.h264_laws.h264_reading_law.Goals as goal

pub returns : goal.returns
returns c = record { aggregates = aggregate_law; fragments = fragment_law }
