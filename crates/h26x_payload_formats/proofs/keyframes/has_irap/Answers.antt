use Rattle.std.proofs.Common.{◌≡◌, length, sym, ap, ◌∙◌, arith}
use Rattle.std.proofs.lemmas.Bool.Decides.{nat_tests}
use Rattle.std.specs.List.{list_any}
use Rattle.h26x_payload_units.proofs.AggregateLemmas.{none_is}
use Rattle.h26x_payload_formats.specs.Reading.{is_irap_unit}
use Rattle.h26x_payload_formats.proofs.keyframes.has_irap.Goals as goal

pub returns : goal.returns
returns c =
    let rest = c.loop-rest.rest.now in
    let empty : length rest ≡ 0 = grind (arith, nat_tests) in
    sym (ap (λ a. list_any (is_irap_unit c.args.layout) a.units) (none_is c.loop-rest.lead c.args.later rest empty))
    ∙ c.loop-rest.invariant
