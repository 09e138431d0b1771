use Rattle.codec_headers.proofs.NalLemmas.{payload-all, payload-more}
use Rattle.codec_headers.proofs.nal.nal_payload.Goals as goal

pub loop-byte-preserved : goal.loop-byte-preserved
loop-byte-preserved c = payload-more _ _ _ _ _ _ _ c.loop-byte-test.true c.loop-byte.invariant c.in_ok-push_kept.ensures

pub returns : goal.returns
returns c = payload-all _ _ _ _ _ _ c.loop-byte-test.false c.loop-byte.invariant
