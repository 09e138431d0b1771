use Rattle.h26x_payload_formats.proofs.Law.{full_law, h265_h266_codec_law, units_law_of_h265_h266, within_law}
use Rattle.h26x_payload_formats.proofs.layout_laws.h265_h266_law.Goals as goal

pub returns : goal.returns
returns c = record { codec = h265_h266_codec_law; units = units_law_of_h265_h266; within = within_law; full = full_law }
