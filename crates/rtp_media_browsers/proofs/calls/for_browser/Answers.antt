use Rattle.std.proofs.Common.{◌≡◌, Err, IfErr, arith, subst, sym}
use Rattle.std.proofs.lemmas.Grind.{common_steps}
use Rattle.std.specs.String.{string_bytes}
use Rattle.rtp_media_browsers.specs.Calls.{HasNoTransport}
use Rattle.rtp_media_browsers.proofs.Refused.{has_transport, own_unwritten_by}
use Rattle.rtp_media_browsers.proofs.calls.for_browser.Goals as goal

pub returns-in_err-text-clause-refused : goal.returns-in_err-text-clause-refused
returns-in_err-text-clause-refused c =
    let text = c.args.text.now in
    let state = c.args.state.now in
    let t = c.args.transport.now in
    let e = c.in_err-text.field-0.0 in
    let is : c.from_residual-in_err-text.result ≡ Err e = grind (arith, common_steps) in
    subst (λ result. IfErr result (λ why. HasNoTransport text state t why)) (sym is)
    (own_unwritten_by text state t c.in_ok-sdp.sdp c.in_ok-with_transport.with_transport e c.in_ok-sdp.ensures
    c.in_ok-test_own.ensures c.in_ok-with_transport.ensures c.in_err-text.ensures.refused)

pub returns-clause-passes : goal.returns-clause-passes
returns-clause-passes c = has_transport c.args.text.now c.args.state.now c.args.transport.now c.in_ok-sdp.sdp
    c.in_ok-with_transport.with_transport c.in_ok-places.places c.settled-state.result (string_bytes c.in_ok-text.text)
    c.in_ok-text.said
    c.in_ok-sdp.ensures c.in_ok-test_own.ensures c.in_ok-with_transport.ensures c.in_ok-text.ensures.written
    c.in_ok-text.ensures.said c.in_ok-places.ensures c.settled-state.ensures
