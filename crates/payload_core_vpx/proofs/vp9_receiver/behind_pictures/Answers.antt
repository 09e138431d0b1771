use Rattle.std.proofs.Common.{suc, arith}
use Rattle.payload_core_vpx.proofs.vp9_receiver.behind_pictures.Goals as goal

pub loop-preserved : goal.loop-preserved
loop-preserved c = λ n e. rw (c.behind-rest.ensures, c.picture_size.ensures.value, c.byte_at.ensures)
    (c.loop.invariant (suc n) (omega arith))

pub returns : goal.returns
returns c = c.loop.invariant 0 (omega arith)
