use Rattle.std.proofs.Common.{arith}
use Rattle.std.proofs.lemmas.Grind.{common_steps}
use Rattle.rtp_media_exchange.proofs.offered.offered_sections.Goals as goal

pub returns-in_err-offered_section : goal.returns-in_err-offered_section
returns-in_err-offered_section c = grind (arith, common_steps)

pub returns-in_err-push : goal.returns-in_err-push
returns-in_err-push c = grind (arith, common_steps)

pub loop-section-preserved : goal.loop-section-preserved
loop-section-preserved c = grind (arith, common_steps)

pub returns : goal.returns
returns c = grind (arith, common_steps)
