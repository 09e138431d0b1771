use Rattle.std.proofs.Common.{◌∙◌, arith}
use Rattle.codec_headers.proofs.ScaleLemmas.{scales-all, scales-end, scales-more, scales-short}
use Rattle.codec_headers.proofs.h264.skip_scales.Goals as goal

pub returns-in_err-last : goal.returns-in_err-last
returns-in_err-last c = rw c.from_residual.ensures
    (c.loop-passed.invariant.same ∙ scales-short _ _ _ _ c.loop-passed-test.true c.in_err-last.ensures.value)

pub returns-then-last-eq0 : goal.returns-then-last-eq0
returns-then-last-eq0 c = c.loop-passed.invariant.same
    ∙ scales-end _ _ _ _ _ _ c.loop-passed-test.true c.in_ok-last.ensures.value c.if-last-eq0.true

pub loop-passed-preserved : goal.loop-passed-preserved
loop-passed-preserved c = record {
  same = c.loop-passed.invariant.same
      ∙ scales-more _ _ _ _ _ _ c.loop-passed-test.true c.in_ok-last.ensures.value c.if-last-eq0.false;
  small = omega (arith, c.in_ok-last.ensures.small);
}

pub returns : goal.returns
returns c = c.loop-passed.invariant.same ∙ scales-all _ _ _ _ c.loop-passed-test.false
