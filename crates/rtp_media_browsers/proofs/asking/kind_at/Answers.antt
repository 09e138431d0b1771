use Rattle.std.proofs.Common.{arith}
use Rattle.std.proofs.lemmas.Grind.{common_steps}
use Rattle.rtp_media_browsers.proofs.Steps.{kind_step}
use Rattle.rtp_media_browsers.proofs.asking.kind_at.Goals as goal

pub loop-number-preserved : goal.loop-number-preserved
loop-number-preserved c =
    let step = kind_step c.args.is_audio c.loop-number.number c.args.asked.now c.index-asked-number.result
    (omega (arith, c.loop-number-test.true)) c.index-asked-number.is in
    grind (arith, common_steps)
