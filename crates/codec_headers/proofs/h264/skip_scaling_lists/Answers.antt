use Rattle.std.proofs.Common.{◌∙◌}
use Rattle.codec_headers.proofs.BitLemmas.{times-all, times-more, times-short}
use Rattle.codec_headers.proofs.h264.skip_scaling_lists.Goals as goal

pub returns-in_err-skip_scaling_list : goal.returns-in_err-skip_scaling_list
returns-in_err-skip_scaling_list c = rw c.from_residual.ensures
    (c.loop-passed.invariant ∙ times-short _ _ _ _ c.loop-passed-test.true c.in_err-skip_scaling_list.ensures)

pub loop-passed-preserved : goal.loop-passed-preserved
loop-passed-preserved c =
    c.loop-passed.invariant ∙ times-more _ _ _ _ _ c.loop-passed-test.true c.in_ok-skip_scaling_list.ensures

pub returns : goal.returns
returns c = c.loop-passed.invariant ∙ times-all _ _ _ _ c.loop-passed-test.false
