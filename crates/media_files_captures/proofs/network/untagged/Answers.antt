use Rattle.std.proofs.Common.{arith, sym, ◌∙◌}
use Rattle.media_files_captures.proofs.FrameLemmas.{untagged-tag, untagged-end, untagged-short}
use Rattle.media_files_captures.proofs.network.untagged.Goals as goal
use Rattle.media_files_captures.proofs.network.untagged.Goals.{then-loop-kind-test+else-rest-ge4, else-loop-kind-test}

pub loop-kind-preserved : goal.loop-kind-preserved
loop-kind-preserved c =
    rw (c.u16_be-kind.ensures, c.rest_from-rest.ensures)
    (sym (untagged-tag c.loop-kind.kind c.loop-kind.rest.now (sym c.loop-kind-test.ensures) c.if-rest-ge4.true)
    ∙ c.loop-kind.invariant)

pub returns : goal.returns
returns c = elim c.loop-kind-test.branch [
  | then-loop-kind-test+else-rest-ge4 w ↦
      sym (untagged-short c.loop-kind.kind c.loop-kind.rest.now (omega arith)) ∙ c.loop-kind.invariant
  | else-loop-kind-test w ↦
      sym (untagged-end c.loop-kind.kind c.loop-kind.rest.now (cc)) ∙ c.loop-kind.invariant
]
