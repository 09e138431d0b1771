use Rattle.std.proofs.Common.{arith}
use Rattle.codec_headers.proofs.BitLemmas.{taken-all, taken-more, taken-none, taken-short}
use Rattle.codec_headers.proofs.bits.Bits.take.Goals as goal

pub loop-taken-init : goal.loop-taken-init
loop-taken-init c = taken-none _

pub returns-in_err-number-clause-value : goal.returns-in_err-number-clause-value
returns-in_err-number-clause-value c = rw c.from_residual.ensures
    (taken-short _ _ _ _ _ c.loop-taken.invariant c.loop-taken-test.true c.in_err-number.ensures.none.0)

pub loop-taken-preserved : goal.loop-taken-preserved
loop-taken-preserved c =
    taken-more _ _ _ _ _ _ c.loop-taken.invariant c.in_ok-number.ensures.some.0 c.in_ok-number.ensures.some.1

pub returns-clause-value : goal.returns-clause-value
returns-clause-value c = taken-all _ _ _ _ _ c.loop-taken.invariant (omega arith)
