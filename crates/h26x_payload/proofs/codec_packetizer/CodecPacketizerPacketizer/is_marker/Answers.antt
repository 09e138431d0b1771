use Rattle.std.proofs.Common.{arith}
use Rattle.std.proofs.lemmas.Grind.{common_steps}
use Rattle.h26x_payload.proofs.codec_packetizer.CodecPacketizerPacketizer.is_marker.Goals as goal

pub returns-in-G711-clause-marker : goal.returns-in-G711-clause-marker
returns-in-G711-clause-marker g c = grind (arith, common_steps)

pub returns-in-G711-clause-packing : goal.returns-in-G711-clause-packing
returns-in-G711-clause-packing g c = grind (arith, common_steps)

pub returns-in-G711-clause-sender : goal.returns-in-G711-clause-sender
returns-in-G711-clause-sender g c = grind (arith, common_steps)

pub returns-in-G722-clause-marker : goal.returns-in-G722-clause-marker
returns-in-G722-clause-marker g c = grind (arith, common_steps)

pub returns-in-G722-clause-packing : goal.returns-in-G722-clause-packing
returns-in-G722-clause-packing g c = grind (arith, common_steps)

pub returns-in-G722-clause-sender : goal.returns-in-G722-clause-sender
returns-in-G722-clause-sender g c = grind (arith, common_steps)

pub returns-in-Opus-clause-marker : goal.returns-in-Opus-clause-marker
returns-in-Opus-clause-marker g c = grind (arith, common_steps)

pub returns-in-Opus-clause-packing : goal.returns-in-Opus-clause-packing
returns-in-Opus-clause-packing g c = grind (arith, common_steps)

pub returns-in-Opus-clause-sender : goal.returns-in-Opus-clause-sender
returns-in-Opus-clause-sender g c = grind (arith, common_steps)

pub returns-in-ComfortNoise-clause-marker : goal.returns-in-ComfortNoise-clause-marker
returns-in-ComfortNoise-clause-marker g c = grind (arith, common_steps)

pub returns-in-ComfortNoise-clause-packing : goal.returns-in-ComfortNoise-clause-packing
returns-in-ComfortNoise-clause-packing g c = grind (arith, common_steps)

pub returns-in-ComfortNoise-clause-sender : goal.returns-in-ComfortNoise-clause-sender
returns-in-ComfortNoise-clause-sender g c = grind (arith, common_steps)

pub returns-in-AmrWb-clause-marker : goal.returns-in-AmrWb-clause-marker
returns-in-AmrWb-clause-marker g c = grind (arith, common_steps)

pub returns-in-AmrWb-clause-packing : goal.returns-in-AmrWb-clause-packing
returns-in-AmrWb-clause-packing g c = grind (arith, common_steps)

pub returns-in-AmrWb-clause-sender : goal.returns-in-AmrWb-clause-sender
returns-in-AmrWb-clause-sender g c = grind (arith, common_steps)

pub returns-in-Telephone-clause-marker : goal.returns-in-Telephone-clause-marker
returns-in-Telephone-clause-marker g c = grind (arith, common_steps)

pub returns-in-Telephone-clause-packing : goal.returns-in-Telephone-clause-packing
returns-in-Telephone-clause-packing g c = grind (arith, common_steps)

pub returns-in-Telephone-clause-sender : goal.returns-in-Telephone-clause-sender
returns-in-Telephone-clause-sender g c = grind (arith, common_steps)

pub returns-in-Vp8-clause-marker : goal.returns-in-Vp8-clause-marker
returns-in-Vp8-clause-marker g c = grind (arith, common_steps)

pub returns-in-Vp8-clause-packing : goal.returns-in-Vp8-clause-packing
returns-in-Vp8-clause-packing g c = grind (arith, common_steps)

pub returns-in-Vp8-clause-sender : goal.returns-in-Vp8-clause-sender
returns-in-Vp8-clause-sender g c = grind (arith, common_steps)

pub returns-in-Vp9-clause-marker : goal.returns-in-Vp9-clause-marker
returns-in-Vp9-clause-marker g c = grind (arith, common_steps)

pub returns-in-Vp9-clause-packing : goal.returns-in-Vp9-clause-packing
returns-in-Vp9-clause-packing g c = grind (arith, common_steps)

pub returns-in-Vp9-clause-sender : goal.returns-in-Vp9-clause-sender
returns-in-Vp9-clause-sender g c = grind (arith, common_steps)

pub returns-in-Av1-clause-marker : goal.returns-in-Av1-clause-marker
returns-in-Av1-clause-marker g c = grind (arith, common_steps)

pub returns-in-Av1-clause-packing : goal.returns-in-Av1-clause-packing
returns-in-Av1-clause-packing g c = grind (arith, common_steps)

pub returns-in-Av1-clause-sender : goal.returns-in-Av1-clause-sender
returns-in-Av1-clause-sender g c = grind (arith, common_steps)

pub returns-in-H264-clause-marker : goal.returns-in-H264-clause-marker
returns-in-H264-clause-marker g c = grind (arith, common_steps)

pub returns-in-H264-clause-packing : goal.returns-in-H264-clause-packing
returns-in-H264-clause-packing g c = grind (arith, common_steps)

pub returns-in-H264-clause-sender : goal.returns-in-H264-clause-sender
returns-in-H264-clause-sender g c = grind (arith, common_steps)

pub returns-in-H265-clause-marker : goal.returns-in-H265-clause-marker
returns-in-H265-clause-marker g c = grind (arith, common_steps)

pub returns-in-H265-clause-packing : goal.returns-in-H265-clause-packing
returns-in-H265-clause-packing g c = grind (arith, common_steps)

pub returns-in-H265-clause-sender : goal.returns-in-H265-clause-sender
returns-in-H265-clause-sender g c = grind (arith, common_steps)

pub returns-in-H266-clause-marker : goal.returns-in-H266-clause-marker
returns-in-H266-clause-marker g c = grind (arith, common_steps)

pub returns-in-H266-clause-packing : goal.returns-in-H266-clause-packing
returns-in-H266-clause-packing g c = grind (arith, common_steps)

pub returns-in-H266-clause-sender : goal.returns-in-H266-clause-sender
returns-in-H266-clause-sender g c = grind (arith, common_steps)

pub returns-in-Boxed-clause-marker : goal.returns-in-Boxed-clause-marker
returns-in-Boxed-clause-marker g c = grind (arith, common_steps)

pub returns-in-Boxed-clause-packing : goal.returns-in-Boxed-clause-packing
returns-in-Boxed-clause-packing g c = grind (arith, common_steps)

pub returns-in-Boxed-clause-sender : goal.returns-in-Boxed-clause-sender
returns-in-Boxed-clause-sender g c = grind (arith, common_steps)
