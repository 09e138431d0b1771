use Rattle.std.proofs.Common.{◌∙◌, ap, refl}
use Rattle.benchmarks.specs.Tallies.{tally_with_all}
use Rattle.benchmarks.proofs.HandedOut.{all_of_first}
use Rattle.benchmarks.proofs.cut.CuttingRound.round.Goals as goal

pub returns : goal.returns
returns c =
    let all = all_of_first (λ u. u.now) _ c.into_iter-unit-iterator.result c.loop-unit.yielded c.loop-unit.unit-iterator
    c.next.new.self c.loop-unit.yielded_by c.in-None.ensures.steps in
    let given = rw c.into_iter-unit-iterator.ensures.into_iter_gives at all in
    (refl, c.loop-unit.invariant ∙ ap (tally_with_all c.args.tally.now) (given ∙ c.nal_units-unit-items.ensures))
