use Rattle.std.proofs.Common.{◌<◌, arith}
use Rattle.rtp_wire.proofs.Words.{placed-more}
use Rattle.rtp_wire.proofs.reading.csrc_of.Goals as goal

pub loop-i-preserved : goal.loop-i-preserved
loop-i-preserved c =
    let few : c.loop-i.i < 15 = omega arith in
    record {
      count = c.loop-i.invariant.count;
      placed = rw c.u32_at.ensures (placed-more c.args.bytes.now c.loop-i.csrc c.loop-i.i c.loop-i.invariant.placed
          few);
    }
