use Rattle.sdp_formats_laws.proofs.FormatValues.{formats_of_lines}
use Rattle.sdp_formats_laws.proofs.formats.format_values_law.Goals as goal

pub returns : goal.returns
returns c = formats_of_lines
