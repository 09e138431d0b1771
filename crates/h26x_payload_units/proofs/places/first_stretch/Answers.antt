use Rattle.std.proofs.Common.{◌+◌, drop, sym, ap, ◌∙◌}
use Rattle.std.proofs.lemmas.List.{take_rest}
use Rattle.h26x_payload_units.specs.Cut.{with_unit}
use Rattle.h26x_payload_units.specs.Units.{units_behind}
use Rattle.h26x_payload_units.proofs.PlaceLemmas.{units_behind-alone, units_behind-first}
use Rattle.h26x_payload_units.proofs.places.first_stretch.Goals as goal

pub returns-in-Some-clause-units : goal.returns-in-Some-clause-units
returns-in-Some-clause-units c =
    let text = c.args.text.now in
    units_behind-first c.in-Some.place text c.in-Some.ensures.0 c.in-Some.ensures.1
    ∙ sym (ap (λ rest. with_unit c.without_zeros.result.now (units_behind rest)) (take_rest text (c.in-Some.place + 3))
    ∙ ap (λ stretch. with_unit stretch (units_behind (drop (c.in-Some.place + 3) text))) c.without_zeros.ensures)

pub returns-in-None-clause-units : goal.returns-in-None-clause-units
returns-in-None-clause-units c = units_behind-alone c.args.text.now c.in-None.ensures
