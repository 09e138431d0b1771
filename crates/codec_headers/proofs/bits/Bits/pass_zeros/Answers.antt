use Rattle.codec_headers.proofs.BitLemmas.{passed-more}
use Rattle.codec_headers.proofs.bits.Bits.pass_zeros.Goals as goal

pub loop-passed-preserved : goal.loop-passed-preserved
loop-passed-preserved c = passed-more _ _ _ _ c.loop-passed.invariant c.if-not-pass_zero.ensures.yes
