use Rattle.std.proofs.Common.{◌≡◌, ◌++◌, length, sym, ap, ◌∙◌, arith}
use Rattle.std.proofs.lemmas.Bool.Decides.{nat_tests}
use Rattle.std.proofs.lemmas.List.{append-nil}
use Rattle.std.specs.List.{flat_map}
use Rattle.h26x_payload_units.specs.Fragments.{behind_code}
use Rattle.h26x_payload_units.proofs.AggregateLemmas.{none_is}
use Rattle.h26x_payload_units.proofs.aggregates.aggregated_units.Goals as goal

pub returns : goal.returns
returns c =
    let rest = c.loop-rest.rest.now in
    let written = c.loop-rest.written.items in
    let empty : length rest ≡ 0 = grind (arith, nat_tests) in
    sym (append-nil written) ∙ sym (ap (λ a. written ++ flat_map behind_code a.units)
    (none_is c.loop-rest.lead c.args.later rest empty)) ∙ c.loop-rest.invariant
