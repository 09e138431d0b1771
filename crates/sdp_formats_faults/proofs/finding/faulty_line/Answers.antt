use Rattle.sdp_formats_faults.proofs.Ends.{read-end}
use Rattle.sdp_formats_faults.proofs.finding.faulty_line.Goals as goal

pub line_at-requires : goal.line_at-requires
line_at-requires c = read-end c.args.text.now c.in-Ok.field-0-0 c.in-Ok.rest.now c.in-Ok.ensures.0
