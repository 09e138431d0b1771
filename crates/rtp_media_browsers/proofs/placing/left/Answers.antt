use Rattle.std.proofs.Common.{arith, drop}
use Rattle.std.proofs.lemmas.Grind.{common_steps}
use Rattle.rtp_media_browsers.proofs.Steps.{left_step, nothing_left}
use Rattle.rtp_media_browsers.proofs.placing.left.Goals as goal

pub loop-number-preserved : goal.loop-number-preserved
loop-number-preserved c =
    let step = left_step c.args.places.now c.loop-number.number in
    grind (arith, common_steps)

pub returns : goal.returns
returns c =
    let none = nothing_left (drop c.loop-number.number c.args.places.now) in
    grind (arith, common_steps)
