use Rattle.std.proofs.Common.{◌∙◌, ◌∷◌, [], arith}
use Rattle.std.proofs.lemmas.Grind.{common_steps}
use Rattle.rtp_media_browsers.specs.Places.{place_of}
use Rattle.rtp_media_browsers.proofs.Steps.{looked_up, one_more, places_step}
use Rattle.rtp_media_browsers.proofs.placing.places_of.Goals as goal

pub loop-number-preserved : goal.loop-number-preserved
loop-number-preserved c =
    let got = looked_up c.args.requests.now c.loop-number.number c.get.result c.get.ensures.lookup.0
    c.get.ensures.lookup.1 in
    let section = c.index-sections-number.result in
    let step = places_step c.args.bundle.now c.args.requests.now c.loop-number.number c.args.sections.now section
    (omega (arith, c.loop-number-test.true)) c.index-sections-number.is in
    let here = c.in_ok-place_of.ensures
    ∙ (λ i. place_of (c.in_ok-bundle.ensures i) (got i) section) in
    one_more _ _ _ _ _ _ _ c.in_ok-push.ensures.ok (λ i. here i ∷ []) step c.loop-number.invariant

pub returns : goal.returns
returns c = grind (arith, common_steps)
