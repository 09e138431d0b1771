use Rattle.std.proofs.Common.{◌<◌, length, Some, None, ap, sym, ◌∙◌, arith}
use Rattle.std.proofs.lemmas.Bool.{eqb-true}
use Rattle.std.proofs.lemmas.List.{get_or_default}
use Rattle.std.specs.Prelude.{slice_index_or}
use Rattle.sdp_formats_data.proofs.retransmitted.is_known_apt.Goals as goal

pub returns-then-eq-clause-value : goal.returns-then-eq-clause-value
returns-then-eq-clause-value c =
    let known = c.args.known.now in
    let place = c.from-place.ensures ∙ c.get.ensures in
    let inside : c.from-place.result < length known
    = omega (arith, c.from-place.ensures, c.get.type_inv, c.requires.places) in
    let same = eqb-true c.in-Some.other c.args.apt (sym c.eq.ensures ∙ c.if-eq.true) in
    let kept = get_or_default known c.from-place.result None _ inside ∙ c.in-Some.is ∙ ap (λ pt. Some pt) same in
    sym (c.requires.agree c.args.pt c.args.apt (ap (λ i. slice_index_or known i None) (sym place) ∙ kept))
