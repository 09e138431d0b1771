use Rattle.std.proofs.Common.{◌<◌, length, arith}
use Rattle.rtp_wire.proofs.NameLaws.{fill_more}
use Rattle.rtp_wire.proofs.names.write_name.Goals as goal

pub loop-i-preserved : goal.loop-i-preserved
loop-i-preserved c =
    let a : c.loop-i.i < length c.args.bytes.now = omega (arith, c.loop-i.invariant.len, c.loop-i-test.true) in
    let b : c.loop-i.i < length c.args.text.now = omega (arith, c.loop-i.invariant.len, c.loop-i-test.true) in
    record {
      len = c.loop-i.invariant.len;
      written = rw (c.name_byte.ensures, c.loop-i.invariant.written)
          (fill_more (length c.args.bytes.now) c.loop-i.i c.args.text.now a b);
    }
