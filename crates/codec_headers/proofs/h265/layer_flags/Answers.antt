use Rattle.std.proofs.Common.{◌∙◌, arith}
use Rattle.codec_headers.proofs.LayerLemmas.{flags-all, flags-more, flags-short}
use Rattle.codec_headers.proofs.h265.layer_flags.Goals as goal

pub returns-in_err-flags : goal.returns-in_err-flags
returns-in_err-flags c = rw c.from_residual.ensures
    (c.loop-passed.invariant.same ∙ flags-short _ _ _ _ c.loop-passed-test.true c.in_err-flags.ensures.value)

pub loop-passed-preserved : goal.loop-passed-preserved
loop-passed-preserved c = record {
  same = c.loop-passed.invariant.same ∙ flags-more _ _ _ _ _ _ _ c.loop-passed-test.true c.in_ok-flags.ensures.value
      c.layer_bits-sum.ensures.value;
  few = omega (arith, c.loop-passed.invariant.few, c.layer_bits-sum.ensures.few);
}

pub returns : goal.returns
returns c = c.loop-passed.invariant.same ∙ flags-all _ _ _ _ c.loop-passed-test.false
