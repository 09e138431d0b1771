use Rattle.std.proofs.Common.{arith, drop}
use Rattle.std.proofs.lemmas.Grind.{common_steps}
use Rattle.rtp_media_browsers.proofs.Steps.{answered_step, nothing_answered}
use Rattle.rtp_media_browsers.proofs.stopping.answered_places.Goals as goal

pub loop-number-preserved : goal.loop-number-preserved
loop-number-preserved c =
    let step = answered_step c.args.places.now c.loop-number.number in
    grind (arith, common_steps)

pub returns : goal.returns
returns c =
    let none = nothing_answered (drop c.loop-number.number c.args.places.now) in
    grind (arith, common_steps)
