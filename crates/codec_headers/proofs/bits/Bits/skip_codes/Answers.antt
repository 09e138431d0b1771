use Rattle.std.proofs.Common.{◌∙◌}
use Rattle.codec_headers.proofs.BitLemmas.{times-all, times-more, times-short}
use Rattle.codec_headers.proofs.bits.Bits.skip_codes.Goals as goal

pub returns-in_err-skip_code : goal.returns-in_err-skip_code
returns-in_err-skip_code c = rw c.from_residual.ensures
    (c.loop-passed.invariant ∙ times-short _ _ _ _ c.loop-passed-test.true c.in_err-skip_code.ensures)

pub loop-passed-preserved : goal.loop-passed-preserved
loop-passed-preserved c =
    c.loop-passed.invariant ∙ times-more _ _ _ _ _ c.loop-passed-test.true c.in_ok-skip_code.ensures

pub returns : goal.returns
returns c = c.loop-passed.invariant ∙ times-all _ _ _ _ c.loop-passed-test.false
