use Rattle.rtp_media_program.proofs.Sent.{LeavesRest-trans}
use Rattle.rtp_media_program.proofs.writing.write_whole.Goals as goal

pub loop-rest-preserved : goal.loop-rest-preserved
loop-rest-preserved g c = LeavesRest-trans _ _ _ _ _ _ c.loop-rest.invariant c.in_ok-rest.ensures.ok
