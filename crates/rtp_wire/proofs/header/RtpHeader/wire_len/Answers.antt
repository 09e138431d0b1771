use Rattle.std.proofs.Common.{◌≡◌, length, arith}
use Rattle.rtp_wire.proofs.LengthsLemmas.{length-spelled_there, length-spelled_not}
use Rattle.rtp_wire.proofs.header.RtpHeader.wire_len.Goals as goal

pub returns-then-self : goal.returns-then-self
returns-then-self c =
    let l : length c.args.self.now.csrc ≡ 15 = omega arith in
    omega (
      arith,
      length-spelled_there c.args.exts.now c.args.self.now l c.if-self.true,
      c.min.ensures,
      c.block_len.ensures.value,
    )

pub returns-else-self : goal.returns-else-self
returns-else-self c =
    let l : length c.args.self.now.csrc ≡ 15 = omega arith in
    omega (arith, length-spelled_not c.args.exts.now c.args.self.now l c.if-self.false, c.min.ensures)
