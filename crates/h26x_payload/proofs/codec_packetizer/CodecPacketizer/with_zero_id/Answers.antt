use Rattle.h26x_payload.proofs.Ids.{vp8-with_zero_id}
use Rattle.h26x_payload.proofs.codec_packetizer.CodecPacketizer.with_zero_id.Goals as goal

pub returns-in-Vp8-clause-in_form : goal.returns-in-Vp8-clause-in_form
returns-in-Vp8-clause-in_form g c = λ f s has_id codec of is.
    vp8-with_zero_id c.in-Vp8.p.has_id c.in-Vp8.p.zero_id c.with_zero_id.result.has_id c.with_zero_id.result.zero_id
    has_id f s codec (rw c.in-Vp8.is at of) (rw c.in-Vp8.is at is) c.with_zero_id.ensures.has_id
    c.with_zero_id.ensures.zero_id
