use Rattle.sdp_formats_reader.proofs.Printed.{pairs_back, restrictions_back}
use Rattle.sdp_formats_reader.proofs.laws.printed_pairs_law.Goals as goal

pub returns : goal.returns
returns c = record { pairs = pairs_back; restrictions = restrictions_back }
