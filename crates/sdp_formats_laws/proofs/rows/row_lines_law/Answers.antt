use Rattle.sdp_formats_laws.proofs.RowLines.{section_printable}
use Rattle.sdp_formats_laws.proofs.rows.row_lines_law.Goals as goal

pub returns : goal.returns
returns c = section_printable c.plain_parameters_law.ensures.readable
