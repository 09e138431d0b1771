use Rattle.std.proofs.Common.{◌∙◌}
use Rattle.codec_headers.proofs.BitLemmas.{times-all, times-more, times-short}
use Rattle.codec_headers.proofs.av1.skip_points.Goals as goal

pub returns-in_err-skip_point : goal.returns-in_err-skip_point
returns-in_err-skip_point c = rw c.from_residual.ensures
    (c.loop-passed.invariant ∙ times-short _ _ _ _ c.loop-passed-test.true c.in_err-skip_point.ensures)

pub loop-passed-preserved : goal.loop-passed-preserved
loop-passed-preserved c =
    c.loop-passed.invariant ∙ times-more _ _ _ _ _ c.loop-passed-test.true c.in_ok-skip_point.ensures

pub returns : goal.returns
returns c = c.loop-passed.invariant ∙ times-all _ _ _ _ c.loop-passed-test.false
