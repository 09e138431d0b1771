use Rattle.std.proofs.Common.{arith}
use Rattle.std.proofs.lemmas.Grind.{common_steps}
use Rattle.sdp_formats_section_rows.proofs.feedback.push_feedback.Goals as goal

pub loop-feedback-preserved : goal.loop-feedback-preserved
loop-feedback-preserved c = grind (arith, common_steps)

pub returns : goal.returns
returns c = grind (arith, common_steps)
