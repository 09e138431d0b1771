use Rattle.std.proofs.Common.{arith}
use Rattle.payload_core_av1.proofs.Leb128Lemmas.{spelling-few, spelling-len_last, spelling-len_more}
use Rattle.payload_core_av1.proofs.leb128.size_len.Goals as goal

pub loop-left-preserved : goal.loop-left-preserved
loop-left-preserved c =
    let inv = c.loop-left.invariant in
    record {
      small = omega arith;
      whole = omega
          (arith, spelling-len_more c.loop-left.left (omega arith) inv.small, inv.whole);
    }

pub overflow_add-len : goal.overflow_add-len
overflow_add-len c = omega (arith, c.loop-left.invariant.whole, spelling-few c.args.size)

pub returns-clause-value : goal.returns-clause-value
returns-clause-value c = omega (arith, spelling-len_last c.loop-left.left (omega arith), c.loop-left.invariant.whole)

pub returns-clause-few : goal.returns-clause-few
returns-clause-few c = omega (
  arith,
  spelling-len_last c.loop-left.left (omega arith),
  c.loop-left.invariant.whole,
  spelling-few c.args.size,
)
