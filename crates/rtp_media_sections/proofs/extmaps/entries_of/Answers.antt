use Rattle.std.proofs.Common.{arith}
use Rattle.std.proofs.lemmas.Grind.{common_steps}
use Rattle.rtp_media_sections.proofs.extmaps.entries_of.Goals as goal

pub loop-id-preserved : goal.loop-id-preserved
loop-id-preserved c = grind (arith, common_steps)

pub returns : goal.returns
returns c = grind (arith, common_steps)
