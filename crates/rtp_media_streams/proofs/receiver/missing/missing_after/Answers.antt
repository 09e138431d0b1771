use Rattle.std.proofs.Common.{◌∙◌, ◌-◌, ◌+◌, ◌^◌, ◌<◌, ◌≡◌, arith}
use Rattle.std.proofs.lemmas.Result.{IfOk-weaker}
use Rattle.std.specs.Prelude.{max, min}
use Rattle.rtp_wire.specs.Replay.{reach_below}
use Rattle.rtp_media_streams.proofs.MissingLaws.{missing_after}
use Rattle.rtp_media_streams.proofs.receiver.missing.missing_after.Goals as goal

pub returns : goal.returns
returns c =
    let w = c.args.window.now in
    let fits : c.args.last < 2 ^ 64 = grind (arith) in
    let within : w.greatest < 2 ^ 64 = grind (arith) in
    let first : c.max.result ≡ max (min (c.args.last + 1) (2 ^ 64 - 1)) (w.greatest - reach_below) = grind (arith) in
    IfOk-weaker c.not_recorded.result _ _
    (λ numbers is. is ∙ missing_after w c.args.last c.max.result fits within first) c.not_recorded.ensures
