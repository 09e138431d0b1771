use Rattle.sdp_formats_grammar.proofs.StepRounds.{takes-line}
use Rattle.sdp_formats_grammar.proofs.cutting.line.Goals as goal

pub returns : goal.returns
returns c = takes-line c.args.text.now c.next_line.result c.next_line.ensures
