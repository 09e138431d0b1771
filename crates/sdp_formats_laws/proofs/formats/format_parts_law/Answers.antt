use Rattle.sdp_formats_laws.proofs.LastGiven.{last_of_line}
use Rattle.sdp_formats_laws.proofs.PartValues.{of_keys, pieces_joined, ranges_alone}
use Rattle.sdp_formats_laws.proofs.formats.format_parts_law.Goals as goal

pub returns : goal.returns
returns c = record {
  pieces = pieces_joined;
  values = of_keys;
  ranges = ranges_alone;
  last_texts = last_of_line;
  last_numbers = last_of_line;
}
