use Rattle.std.proofs.Common.{◌≡◌, ℕ, length, ap, arith}
use Rattle.std.proofs.lemmas.Bool.Decides.{nat_tests}
use Rattle.std.proofs.lemmas.List.{length-append}
use Rattle.std.specs.List.{flat_map}
use Rattle.h26x_payload_units.specs.Aggregates.{Aggregated, aggregated, sized}
use Rattle.h26x_payload_units.proofs.AggregateLemmas.{none_is}
use Rattle.h26x_payload_formats.proofs.StapALemmas.{units_fit}
use Rattle.h26x_payload_formats.proofs.h264_receiver.sized_len.Goals as goal

abbrev len_of : Aggregated → ℕ
len_of a = length (flat_map sized a.units)

pub overflow_add-len-in-loop-rest : goal.overflow_add-len-in-loop-rest
overflow_add-len-in-loop-rest c =
    let first = ap len_of (c.in-Ok.ensures.unit 0) in
    let whole = length-append c.in-Ok.unit.now (flat_map sized (aggregated 0 0 c.in-Ok.behind.now).units) in
    grind (arith, nat_tests, first, whole, c.loop-rest.invariant, units_fit c.args.body.now, c.type_inv.body)

pub returns : goal.returns
returns c =
    let rest = c.loop-rest.rest.now in
    let empty : length rest ≡ 0 = grind (arith, nat_tests) in
    omega (arith, ap len_of (none_is 0 0 rest empty), c.loop-rest.invariant)
