use Rattle.std.proofs.Common.{arith}
use Rattle.codec_headers.proofs.BitLemmas.{pass-all, pass-more, pass-none, pass-short}
use Rattle.codec_headers.proofs.bits.Bits.skip.Goals as goal

pub loop-passed-init : goal.loop-passed-init
loop-passed-init c = pass-none _

pub returns-in_err-_bit : goal.returns-in_err-_bit
returns-in_err-_bit c = rw c.from_residual.ensures
    (pass-short _ _ _ _ c.loop-passed.invariant c.loop-passed-test.true c.in_err-_bit.ensures.none.0)

pub loop-passed-preserved : goal.loop-passed-preserved
loop-passed-preserved c = pass-more _ _ _ _ _ c.loop-passed.invariant c.in_ok-_bit.ensures.some.0

pub returns : goal.returns
returns c = pass-all _ _ _ _ c.loop-passed.invariant (omega arith)
