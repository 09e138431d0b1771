use Rattle.std.proofs.Common.{arith}
use Rattle.std.proofs.lemmas.Grind.{common_steps}
use Rattle.h26x_payload.proofs.codec_packetizer.CodecPacketizerPacketizer.packetize_with_prefix.Goals as goal

pub returns-in-G711-clause-packing : goal.returns-in-G711-clause-packing
returns-in-G711-clause-packing g c = grind (arith, common_steps)

pub returns-in-G711-clause-packets : goal.returns-in-G711-clause-packets
returns-in-G711-clause-packets g c = grind (arith, common_steps)

pub returns-in-G711-clause-refused : goal.returns-in-G711-clause-refused
returns-in-G711-clause-refused g c = grind (arith, common_steps)

pub returns-in-G711-clause-unchanged : goal.returns-in-G711-clause-unchanged
returns-in-G711-clause-unchanged g c = grind (arith, common_steps)

pub returns-in-G722-clause-packing : goal.returns-in-G722-clause-packing
returns-in-G722-clause-packing g c = grind (arith, common_steps)

pub returns-in-G722-clause-packets : goal.returns-in-G722-clause-packets
returns-in-G722-clause-packets g c = grind (arith, common_steps)

pub returns-in-G722-clause-refused : goal.returns-in-G722-clause-refused
returns-in-G722-clause-refused g c = grind (arith, common_steps)

pub returns-in-G722-clause-unchanged : goal.returns-in-G722-clause-unchanged
returns-in-G722-clause-unchanged g c = grind (arith, common_steps)

pub returns-in-Opus-clause-packing : goal.returns-in-Opus-clause-packing
returns-in-Opus-clause-packing g c = grind (arith, common_steps)

pub returns-in-Opus-clause-packets : goal.returns-in-Opus-clause-packets
returns-in-Opus-clause-packets g c = grind (arith, common_steps)

pub returns-in-Opus-clause-refused : goal.returns-in-Opus-clause-refused
returns-in-Opus-clause-refused g c = grind (arith, common_steps)

pub returns-in-Opus-clause-unchanged : goal.returns-in-Opus-clause-unchanged
returns-in-Opus-clause-unchanged g c = grind (arith, common_steps)

pub returns-in-ComfortNoise-clause-packing : goal.returns-in-ComfortNoise-clause-packing
returns-in-ComfortNoise-clause-packing g c = grind (arith, common_steps)

pub returns-in-ComfortNoise-clause-packets : goal.returns-in-ComfortNoise-clause-packets
returns-in-ComfortNoise-clause-packets g c = grind (arith, common_steps)

pub returns-in-ComfortNoise-clause-refused : goal.returns-in-ComfortNoise-clause-refused
returns-in-ComfortNoise-clause-refused g c = grind (arith, common_steps)

pub returns-in-ComfortNoise-clause-unchanged : goal.returns-in-ComfortNoise-clause-unchanged
returns-in-ComfortNoise-clause-unchanged g c = grind (arith, common_steps)

pub returns-in-AmrWb-clause-packing : goal.returns-in-AmrWb-clause-packing
returns-in-AmrWb-clause-packing g c = grind (arith, common_steps)

pub returns-in-AmrWb-clause-packets : goal.returns-in-AmrWb-clause-packets
returns-in-AmrWb-clause-packets g c = grind (arith, common_steps)

pub returns-in-AmrWb-clause-refused : goal.returns-in-AmrWb-clause-refused
returns-in-AmrWb-clause-refused g c = grind (arith, common_steps)

pub returns-in-AmrWb-clause-unchanged : goal.returns-in-AmrWb-clause-unchanged
returns-in-AmrWb-clause-unchanged g c = grind (arith, common_steps)

pub returns-in-Telephone-clause-packing : goal.returns-in-Telephone-clause-packing
returns-in-Telephone-clause-packing g c = grind (arith, common_steps)

pub returns-in-Telephone-clause-packets : goal.returns-in-Telephone-clause-packets
returns-in-Telephone-clause-packets g c = grind (arith, common_steps)

pub returns-in-Telephone-clause-refused : goal.returns-in-Telephone-clause-refused
returns-in-Telephone-clause-refused g c = grind (arith, common_steps)

pub returns-in-Telephone-clause-unchanged : goal.returns-in-Telephone-clause-unchanged
returns-in-Telephone-clause-unchanged g c = grind (arith, common_steps)

pub returns-in-Vp8-clause-packing : goal.returns-in-Vp8-clause-packing
returns-in-Vp8-clause-packing g c = grind (arith, common_steps)

pub returns-in-Vp8-clause-packets : goal.returns-in-Vp8-clause-packets
returns-in-Vp8-clause-packets g c = grind (arith, common_steps)

pub returns-in-Vp8-clause-refused : goal.returns-in-Vp8-clause-refused
returns-in-Vp8-clause-refused g c = grind (arith, common_steps)

pub returns-in-Vp8-clause-unchanged : goal.returns-in-Vp8-clause-unchanged
returns-in-Vp8-clause-unchanged g c = grind (arith, common_steps)

pub returns-in-Vp9-clause-packing : goal.returns-in-Vp9-clause-packing
returns-in-Vp9-clause-packing g c = grind (arith, common_steps)

pub returns-in-Vp9-clause-packets : goal.returns-in-Vp9-clause-packets
returns-in-Vp9-clause-packets g c = grind (arith, common_steps)

pub returns-in-Vp9-clause-refused : goal.returns-in-Vp9-clause-refused
returns-in-Vp9-clause-refused g c = grind (arith, common_steps)

pub returns-in-Vp9-clause-unchanged : goal.returns-in-Vp9-clause-unchanged
returns-in-Vp9-clause-unchanged g c = grind (arith, common_steps)

pub returns-in-Av1-clause-packing : goal.returns-in-Av1-clause-packing
returns-in-Av1-clause-packing g c = grind (arith, common_steps)

pub returns-in-Av1-clause-packets : goal.returns-in-Av1-clause-packets
returns-in-Av1-clause-packets g c = grind (arith, common_steps)

pub returns-in-Av1-clause-refused : goal.returns-in-Av1-clause-refused
returns-in-Av1-clause-refused g c = grind (arith, common_steps)

pub returns-in-Av1-clause-unchanged : goal.returns-in-Av1-clause-unchanged
returns-in-Av1-clause-unchanged g c = grind (arith, common_steps)

pub returns-in-H264-clause-packing : goal.returns-in-H264-clause-packing
returns-in-H264-clause-packing g c = grind (arith, common_steps)

pub returns-in-H264-clause-packets : goal.returns-in-H264-clause-packets
returns-in-H264-clause-packets g c = grind (arith, common_steps)

pub returns-in-H264-clause-refused : goal.returns-in-H264-clause-refused
returns-in-H264-clause-refused g c = grind (arith, common_steps)

pub returns-in-H264-clause-unchanged : goal.returns-in-H264-clause-unchanged
returns-in-H264-clause-unchanged g c = grind (arith, common_steps)

pub returns-in-H265-clause-packing : goal.returns-in-H265-clause-packing
returns-in-H265-clause-packing g c = grind (arith, common_steps)

pub returns-in-H265-clause-packets : goal.returns-in-H265-clause-packets
returns-in-H265-clause-packets g c = grind (arith, common_steps)

pub returns-in-H265-clause-refused : goal.returns-in-H265-clause-refused
returns-in-H265-clause-refused g c = grind (arith, common_steps)

pub returns-in-H265-clause-unchanged : goal.returns-in-H265-clause-unchanged
returns-in-H265-clause-unchanged g c = grind (arith, common_steps)

pub returns-in-H266-clause-packing : goal.returns-in-H266-clause-packing
returns-in-H266-clause-packing g c = grind (arith, common_steps)

pub returns-in-H266-clause-packets : goal.returns-in-H266-clause-packets
returns-in-H266-clause-packets g c = grind (arith, common_steps)

pub returns-in-H266-clause-refused : goal.returns-in-H266-clause-refused
returns-in-H266-clause-refused g c = grind (arith, common_steps)

pub returns-in-H266-clause-unchanged : goal.returns-in-H266-clause-unchanged
returns-in-H266-clause-unchanged g c = grind (arith, common_steps)

pub returns-in-Boxed-clause-packing : goal.returns-in-Boxed-clause-packing
returns-in-Boxed-clause-packing g c = grind (arith, common_steps)

pub returns-in-Boxed-clause-packets : goal.returns-in-Boxed-clause-packets
returns-in-Boxed-clause-packets g c = grind (arith, common_steps)

pub returns-in-Boxed-clause-refused : goal.returns-in-Boxed-clause-refused
returns-in-Boxed-clause-refused g c = grind (arith, common_steps)

pub returns-in-Boxed-clause-unchanged : goal.returns-in-Boxed-clause-unchanged
returns-in-Boxed-clause-unchanged g c = grind (arith, common_steps)
