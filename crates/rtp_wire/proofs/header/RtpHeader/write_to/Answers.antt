use Rattle.std.proofs.Common.{◌≡◌, [], length, arith, refl, ◌++◌, take, length-append, length-take}
use Rattle.rtp_wire.specs.Layout.{words}
use Rattle.rtp_wire.proofs.LengthsLemmas.{length-words, length-spelled, length-spelled_there, length-spelled_not}
use Rattle.rtp_wire.proofs.LengthsLemmas.{spelled-there, spelled-not, IsWritten-none, IsWritten-as}
use Rattle.rtp_wire.proofs.header.RtpHeader.write_to.Goals as goal

pub write_words-at-requires : goal.write_words-at-requires
write_words-at-requires c =
    let l : length c.args.self.now.csrc ≡ 15 = omega arith in
    omega (
      arith,
      length-spelled c.args.exts.now c.args.self.now l,
      c.put-at.ensures.end,
      c.requires.room,
      length-take c.args.self.now.csrc_count c.args.self.now.csrc,
    )

pub write_extension-requires : goal.write_extension-requires
write_extension-requires c =
    let l : length c.args.self.now.csrc ≡ 15 = omega arith in
    omega (
      arith,
      length-spelled_there c.args.exts.now c.args.self.now l c.if-self.true,
      c.put-at.ensures.end,
      c.write_words-at.ensures.end,
      c.requires.room,
      length-take c.args.self.now.csrc_count c.args.self.now.csrc,
    )

pub returns-then-self-clause-len : goal.returns-then-self-clause-len
returns-then-self-clause-len c =
    let l : length c.args.self.now.csrc ≡ 15 = omega arith in
    omega (
      arith,
      length-spelled_there c.args.exts.now c.args.self.now l c.if-self.true,
      c.put-at.ensures.end,
      c.write_words-at.ensures.end,
      c.write_extension.ensures.end,
      length-take c.args.self.now.csrc_count c.args.self.now.csrc,
    )

pub returns-then-self-clause-written : goal.returns-then-self-clause-written
returns-then-self-clause-written c =
    let csrc = take c.args.self.now.csrc_count c.args.self.now.csrc in
    let fixed = c.put-at.ensures.written [] c.args.buf.now (IsWritten-none c.args.buf.now) refl in
    let first : c.put-at.result ≡ length c.fixed_bytes.result = omega (arith, c.put-at.ensures.end) in
    let second = c.write_words-at.ensures.written c.fixed_bytes.result c.args.buf.now fixed first in
    let place : c.write_words-at.result ≡ length (c.fixed_bytes.result ++ words csrc) =
    omega (
      arith,
      c.write_words-at.ensures.end,
      first,
      length-append c.fixed_bytes.result (words csrc),
      length-words csrc,
    ) in
    let third = c.write_extension.ensures.written (c.fixed_bytes.result ++ words csrc) c.args.buf.now second place in
    IsWritten-as _ _ c.args.buf.now _ third (spelled-there c.args.exts.now c.args.self.now c.fixed_bytes.result
    (c.fixed_bytes.ensures.bytes c.args.exts.now) c.if-self.true)

pub returns-else-self-clause-len : goal.returns-else-self-clause-len
returns-else-self-clause-len c =
    let l : length c.args.self.now.csrc ≡ 15 = omega arith in
    omega (
      arith,
      length-spelled_not c.args.exts.now c.args.self.now l c.if-self.false,
      c.put-at.ensures.end,
      c.write_words-at.ensures.end,
      length-take c.args.self.now.csrc_count c.args.self.now.csrc,
    )

pub returns-else-self-clause-written : goal.returns-else-self-clause-written
returns-else-self-clause-written c =
    let fixed = c.put-at.ensures.written [] c.args.buf.now (IsWritten-none c.args.buf.now) refl in
    let first : c.put-at.result ≡ length c.fixed_bytes.result = omega (arith, c.put-at.ensures.end) in
    let second = c.write_words-at.ensures.written c.fixed_bytes.result c.args.buf.now fixed first in
    IsWritten-as _ _ c.args.buf.now _ second
    (spelled-not c.args.exts.now c.args.self.now c.fixed_bytes.result
    (c.fixed_bytes.ensures.bytes c.args.exts.now) c.if-self.false)
