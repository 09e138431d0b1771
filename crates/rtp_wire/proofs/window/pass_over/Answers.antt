use Rattle.std.proofs.Common.{arith}
use Rattle.rtp_wire.proofs.WindowLaws.{passes-more, passes-none}
use Rattle.rtp_wire.proofs.window.pass_over.Goals as goal

pub loop-below-init : goal.loop-below-init
loop-below-init c = passes-none _ _

pub loop-below-preserved : goal.loop-below-preserved
loop-below-preserved c = passes-more _ _ _ _ _ (omega arith) c.loop-below.invariant c.forget.ensures
