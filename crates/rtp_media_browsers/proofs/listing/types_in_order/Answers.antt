use Rattle.std.proofs.Common.{arith}
use Rattle.std.proofs.lemmas.Grind.{common_steps}
use Rattle.rtp_media_browsers.proofs.listing.types_in_order.Goals as goal

pub loop-pt-preserved : goal.loop-pt-preserved
loop-pt-preserved c = grind (arith, common_steps)

pub returns : goal.returns
returns c = grind (arith, common_steps)
