use Rattle.std.proofs.Common.{rules}
use Rattle.sdp_formats_rows.specs.Formats.{format_of}
use Rattle.sdp_formats_rows.proofs.format.FormatParams.parse_line.Goals as goal

pub loop-rest-init : goal.loop-rest-init
unfolding format_of
loop-rest-init c = search rules
