use Rattle.sdp_formats_laws.proofs.PlainRounds.{rounds_keep_plain}
use Rattle.sdp_formats_laws.proofs.read_lines.rounds_keep_plain_rows.Goals as goal

pub returns : goal.returns
returns c = rounds_keep_plain c.rounds_keep_widths.ensures c.formats_law.ensures.in_range
