use Rattle.std.proofs.Common.{◌∙◌, ◌∷◌, [], arith}
use Rattle.std.proofs.lemmas.Grind.{common_steps}
use Rattle.rtp_media_browsers.specs.Received.{as_asked}
use Rattle.rtp_media_browsers.proofs.AsAsked.{asked_step}
use Rattle.rtp_media_browsers.proofs.Steps.{looked_up, one_more}
use Rattle.rtp_media_browsers.proofs.received.all_as_asked.Goals as goal

pub loop-number-preserved : goal.loop-number-preserved
loop-number-preserved c =
    let got = looked_up c.args.requests.now c.loop-number.number c.get.result c.get.ensures.lookup.0
    c.get.ensures.lookup.1 in
    let section = c.index-sections-number.result in
    let step = asked_step c.args.requests.now c.loop-number.number c.args.sections.now section
    (omega (arith, c.loop-number-test.true)) c.index-sections-number.is in
    let here = c.in_ok-as_asked.ensures ∙ (λ i. as_asked (got i) section) in
    one_more _ _ _ _ _ _ _ c.in_ok-push.ensures.items (λ i. here i ∷ []) step c.loop-number.invariant

pub returns : goal.returns
returns c = grind (arith, common_steps)
