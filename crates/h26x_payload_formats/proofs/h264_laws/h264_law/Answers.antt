use Rattle.h26x_payload_formats.proofs.H264Law.{full_law, h264_codec_law, units_law_of_h264, within_law}
use Rattle.h26x_payload_formats.proofs.h264_laws.h264_law.Goals as goal

pub returns : goal.returns
returns c = record { codec = h264_codec_law; units = units_law_of_h264; within = within_law; full = full_law }
