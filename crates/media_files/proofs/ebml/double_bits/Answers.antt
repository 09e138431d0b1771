use Rattle.std.proofs.Common.{◌≡◌, ◌-◌, zero, arith, sym, ◌∙◌}
use Rattle.media_files.specs.Ebml.{bits_from}
use Rattle.media_files.proofs.EbmlLemmas.{bits_from-found, bits_from-more, bits_from-none}
use Rattle.media_files.proofs.ebml.double_bits.Goals as goal

pub returns-then-number-ge-HALF : goal.returns-then-number-ge-HALF
returns-then-number-ge-HALF c =
    sym (bits_from-found c.loop-doubled.doubled c.loop-doubled.number c.loop-doubled-test.true
    c.if-number-ge-HALF.true) ∙ c.loop-doubled.invariant.same

pub loop-doubled-preserved : goal.loop-doubled-preserved
loop-doubled-preserved c = record {
  small = omega arith;
  same = sym (bits_from-more c.loop-doubled.doubled c.loop-doubled.number c.loop-doubled-test.true
      c.if-number-ge-HALF.false) ∙ c.loop-doubled.invariant.same;
}

pub returns : goal.returns
returns c =
    let none : 53 - c.loop-doubled.doubled ≡ zero = omega arith in
    let nothing : bits_from (53 - c.loop-doubled.doubled) c.loop-doubled.number ≡ 0 =
    rw none (bits_from-none c.loop-doubled.number) in
    sym nothing ∙ c.loop-doubled.invariant.same
