use Rattle.std.proofs.Common.{◌≡◌, length, sym, ap, ◌∙◌, arith}
use Rattle.std.proofs.lemmas.Bool.Decides.{nat_tests}
use Rattle.std.proofs.lemmas.List.{nil_from_length}
use Rattle.h26x_payload_units.specs.Units.{units_behind}
use Rattle.h26x_payload_units.proofs.PlaceLemmas.{units_behind-none}
use Rattle.h26x_payload_units.proofs.iteration.NalUnitsIterator.next.Goals as goal

pub returns-clause-steps : goal.returns-clause-steps
returns-clause-steps c =
    let rest = c.loop-stretch.self.rest.now in
    let empty : length rest ≡ 0 = grind (arith, nat_tests) in
    let end = ap units_behind (nil_from_length rest empty) ∙ units_behind-none in
    (sym c.loop-stretch.invariant.0 ∙ end, end)
