use Rattle.std.proofs.Common.{◌≤◌, ◌+◌, ◌-◌, ap, sym, ◌∙◌, arith}
use Rattle.std.specs.Prelude.{Option}
use Rattle.rtp_wire.specs.declared.extension.Extension.{Extension}
use Rattle.rtp_wire.specs.Iteration.{numbered, entry_before}
use Rattle.rtp_wire.proofs.EntryLaws.{entries_step}
use Rattle.rtp_wire.proofs.iteration.ExtensionMapIterIterator.next.Goals as goal

pub returns-in-Some-clause-steps : goal.returns-in-Some-clause-steps
returns-in-Some-clause-steps c =
    let map = c.loop-self.self.map.now in
    let id = c.loop-self.self.id in
    let few : id ≤ 16 = omega arith in
    sym c.loop-self.invariant ∙ entries_step map id few
    ∙ ap (λ (o : Option Extension). entry_before id o (numbered map (id + 1) (17 - (id + 1)))) (sym c.in-Some.ensures)

pub loop-self-preserved : goal.loop-self-preserved
loop-self-preserved c =
    let map = c.loop-self.self.map.now in
    let id = c.loop-self.self.id in
    let few : id ≤ 16 = omega arith in
    sym (entries_step map id few
    ∙ ap (λ (o : Option Extension). entry_before id o (numbered map (id + 1) (17 - (id + 1)))) (sym c.in-None.ensures))
    ∙ c.loop-self.invariant
