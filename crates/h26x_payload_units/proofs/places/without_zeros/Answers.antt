use Rattle.std.proofs.Common.{◌++◌, ◌∷◌, [], sym, ap, ◌∙◌}
use Rattle.h26x_payload_units.specs.Units.{without_zeros}
use Rattle.h26x_payload_units.proofs.LayoutLemmas.{without_zeros-other, without_zeros-zero}
use Rattle.h26x_payload_units.proofs.places.without_zeros.Goals as goal

pub returns-then-last-ne0 : goal.returns-then-last-ne0
returns-then-last-ne0 c =
    let split = c.in-Some.ensures.cases.0 in
    split ∙ sym (without_zeros-other c.in-Some.front.now c.in-Some.last.now c.if-last-ne0.true)
    ∙ ap without_zeros (sym split) ∙ c.loop-last.invariant

pub loop-last-preserved : goal.loop-last-preserved
loop-last-preserved c =
    let split = c.in-Some.ensures.cases.0 in
    sym (without_zeros-zero c.in-Some.front.now)
    ∙ ap (λ b. without_zeros (c.in-Some.front.now ++ b ∷ [])) (sym c.if-last-ne0.false)
    ∙ ap without_zeros (sym split) ∙ c.loop-last.invariant
