use Rattle.std.proofs.Common.{arith}
use Rattle.std.proofs.lemmas.Grind.{common_steps}
use Rattle.rtp_media_browsers.proofs.copies.clone_tracks.Goals as goal

pub loop-track-preserved : goal.loop-track-preserved
loop-track-preserved c = grind (arith, common_steps)

pub returns : goal.returns
returns c = grind (arith, common_steps)
