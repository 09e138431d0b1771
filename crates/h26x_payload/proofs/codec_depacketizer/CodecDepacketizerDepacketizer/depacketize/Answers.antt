use Rattle.std.proofs.Common.{arith}
use Rattle.std.proofs.lemmas.Grind.{common_steps}
use Rattle.h26x_payload.proofs.codec_depacketizer.CodecDepacketizerDepacketizer.depacketize.Goals as goal

pub returns-in-G711-clause-format : goal.returns-in-G711-clause-format
returns-in-G711-clause-format g c = grind (arith, common_steps)

pub returns-in-G711-clause-read : goal.returns-in-G711-clause-read
returns-in-G711-clause-read g c = grind (arith, common_steps)

pub returns-in-G711-clause-refused : goal.returns-in-G711-clause-refused
returns-in-G711-clause-refused g c = grind (arith, common_steps)

pub returns-in-G711-clause-unchanged : goal.returns-in-G711-clause-unchanged
returns-in-G711-clause-unchanged g c = grind (arith, common_steps)

pub returns-in-G722-clause-format : goal.returns-in-G722-clause-format
returns-in-G722-clause-format g c = grind (arith, common_steps)

pub returns-in-G722-clause-read : goal.returns-in-G722-clause-read
returns-in-G722-clause-read g c = grind (arith, common_steps)

pub returns-in-G722-clause-refused : goal.returns-in-G722-clause-refused
returns-in-G722-clause-refused g c = grind (arith, common_steps)

pub returns-in-G722-clause-unchanged : goal.returns-in-G722-clause-unchanged
returns-in-G722-clause-unchanged g c = grind (arith, common_steps)

pub returns-in-Opus-clause-format : goal.returns-in-Opus-clause-format
returns-in-Opus-clause-format g c = grind (arith, common_steps)

pub returns-in-Opus-clause-read : goal.returns-in-Opus-clause-read
returns-in-Opus-clause-read g c = grind (arith, common_steps)

pub returns-in-Opus-clause-refused : goal.returns-in-Opus-clause-refused
returns-in-Opus-clause-refused g c = grind (arith, common_steps)

pub returns-in-Opus-clause-unchanged : goal.returns-in-Opus-clause-unchanged
returns-in-Opus-clause-unchanged g c = grind (arith, common_steps)

pub returns-in-ComfortNoise-clause-format : goal.returns-in-ComfortNoise-clause-format
returns-in-ComfortNoise-clause-format g c = grind (arith, common_steps)

pub returns-in-ComfortNoise-clause-read : goal.returns-in-ComfortNoise-clause-read
returns-in-ComfortNoise-clause-read g c = grind (arith, common_steps)

pub returns-in-ComfortNoise-clause-refused : goal.returns-in-ComfortNoise-clause-refused
returns-in-ComfortNoise-clause-refused g c = grind (arith, common_steps)

pub returns-in-ComfortNoise-clause-unchanged : goal.returns-in-ComfortNoise-clause-unchanged
returns-in-ComfortNoise-clause-unchanged g c = grind (arith, common_steps)

pub returns-in-AmrWb-clause-format : goal.returns-in-AmrWb-clause-format
returns-in-AmrWb-clause-format g c = grind (arith, common_steps)

pub returns-in-AmrWb-clause-read : goal.returns-in-AmrWb-clause-read
returns-in-AmrWb-clause-read g c = grind (arith, common_steps)

pub returns-in-AmrWb-clause-refused : goal.returns-in-AmrWb-clause-refused
returns-in-AmrWb-clause-refused g c = grind (arith, common_steps)

pub returns-in-AmrWb-clause-unchanged : goal.returns-in-AmrWb-clause-unchanged
returns-in-AmrWb-clause-unchanged g c = grind (arith, common_steps)

pub returns-in-Telephone-clause-format : goal.returns-in-Telephone-clause-format
returns-in-Telephone-clause-format g c = grind (arith, common_steps)

pub returns-in-Telephone-clause-read : goal.returns-in-Telephone-clause-read
returns-in-Telephone-clause-read g c = grind (arith, common_steps)

pub returns-in-Telephone-clause-refused : goal.returns-in-Telephone-clause-refused
returns-in-Telephone-clause-refused g c = grind (arith, common_steps)

pub returns-in-Telephone-clause-unchanged : goal.returns-in-Telephone-clause-unchanged
returns-in-Telephone-clause-unchanged g c = grind (arith, common_steps)

pub returns-in-Vp8-clause-format : goal.returns-in-Vp8-clause-format
returns-in-Vp8-clause-format g c = grind (arith, common_steps)

pub returns-in-Vp8-clause-read : goal.returns-in-Vp8-clause-read
returns-in-Vp8-clause-read g c = grind (arith, common_steps)

pub returns-in-Vp8-clause-refused : goal.returns-in-Vp8-clause-refused
returns-in-Vp8-clause-refused g c = grind (arith, common_steps)

pub returns-in-Vp8-clause-unchanged : goal.returns-in-Vp8-clause-unchanged
returns-in-Vp8-clause-unchanged g c = grind (arith, common_steps)

pub returns-in-Vp9-clause-format : goal.returns-in-Vp9-clause-format
returns-in-Vp9-clause-format g c = grind (arith, common_steps)

pub returns-in-Vp9-clause-read : goal.returns-in-Vp9-clause-read
returns-in-Vp9-clause-read g c = grind (arith, common_steps)

pub returns-in-Vp9-clause-refused : goal.returns-in-Vp9-clause-refused
returns-in-Vp9-clause-refused g c = grind (arith, common_steps)

pub returns-in-Vp9-clause-unchanged : goal.returns-in-Vp9-clause-unchanged
returns-in-Vp9-clause-unchanged g c = grind (arith, common_steps)

pub returns-in-Av1-clause-format : goal.returns-in-Av1-clause-format
returns-in-Av1-clause-format g c = grind (arith, common_steps)

pub returns-in-Av1-clause-read : goal.returns-in-Av1-clause-read
returns-in-Av1-clause-read g c = grind (arith, common_steps)

pub returns-in-Av1-clause-refused : goal.returns-in-Av1-clause-refused
returns-in-Av1-clause-refused g c = grind (arith, common_steps)

pub returns-in-Av1-clause-unchanged : goal.returns-in-Av1-clause-unchanged
returns-in-Av1-clause-unchanged g c = grind (arith, common_steps)

pub returns-in-H264-clause-format : goal.returns-in-H264-clause-format
returns-in-H264-clause-format g c = grind (arith, common_steps)

pub returns-in-H264-clause-read : goal.returns-in-H264-clause-read
returns-in-H264-clause-read g c = grind (arith, common_steps)

pub returns-in-H264-clause-refused : goal.returns-in-H264-clause-refused
returns-in-H264-clause-refused g c = grind (arith, common_steps)

pub returns-in-H264-clause-unchanged : goal.returns-in-H264-clause-unchanged
returns-in-H264-clause-unchanged g c = grind (arith, common_steps)

pub returns-in-H265-clause-format : goal.returns-in-H265-clause-format
returns-in-H265-clause-format g c = grind (arith, common_steps)

pub returns-in-H265-clause-read : goal.returns-in-H265-clause-read
returns-in-H265-clause-read g c = grind (arith, common_steps)

pub returns-in-H265-clause-refused : goal.returns-in-H265-clause-refused
returns-in-H265-clause-refused g c = grind (arith, common_steps)

pub returns-in-H265-clause-unchanged : goal.returns-in-H265-clause-unchanged
returns-in-H265-clause-unchanged g c = grind (arith, common_steps)

pub returns-in-H266-clause-format : goal.returns-in-H266-clause-format
returns-in-H266-clause-format g c = grind (arith, common_steps)

pub returns-in-H266-clause-read : goal.returns-in-H266-clause-read
returns-in-H266-clause-read g c = grind (arith, common_steps)

pub returns-in-H266-clause-refused : goal.returns-in-H266-clause-refused
returns-in-H266-clause-refused g c = grind (arith, common_steps)

pub returns-in-H266-clause-unchanged : goal.returns-in-H266-clause-unchanged
returns-in-H266-clause-unchanged g c = grind (arith, common_steps)

pub returns-in-Boxed-clause-format : goal.returns-in-Boxed-clause-format
returns-in-Boxed-clause-format g c = grind (arith, common_steps)

pub returns-in-Boxed-clause-read : goal.returns-in-Boxed-clause-read
returns-in-Boxed-clause-read g c = grind (arith, common_steps)

pub returns-in-Boxed-clause-refused : goal.returns-in-Boxed-clause-refused
returns-in-Boxed-clause-refused g c = grind (arith, common_steps)

pub returns-in-Boxed-clause-unchanged : goal.returns-in-Boxed-clause-unchanged
returns-in-Boxed-clause-unchanged g c = grind (arith, common_steps)
