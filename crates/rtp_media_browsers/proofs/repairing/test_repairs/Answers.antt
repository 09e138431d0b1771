use Rattle.std.proofs.Common.{arith}
use Rattle.std.proofs.lemmas.Grind.{common_steps}
use Rattle.rtp_media_browsers.proofs.repairing.test_repairs.Goals as goal

pub loop-number-preserved : goal.loop-number-preserved
loop-number-preserved c = grind (arith, common_steps)
