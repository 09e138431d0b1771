use Rattle.std.proofs.Common.{arith}
use Rattle.std.proofs.lemmas.Grind.{common_steps}
use Rattle.rtp_media_browsers.proofs.Steps.{number_step}
use Rattle.rtp_media_browsers.proofs.wanted.number_of.Goals as goal

pub loop-number-preserved : goal.loop-number-preserved
loop-number-preserved c =
    let step = number_step c.args.mid c.loop-number.number c.args.places.now c.index-places-number.result
    (omega (arith, c.loop-number-test.true)) c.index-places-number.is in
    grind (arith, common_steps)
