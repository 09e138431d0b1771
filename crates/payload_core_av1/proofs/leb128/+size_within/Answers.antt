use Rattle.std.proofs.Common.{◌-◌, arith}
use Rattle.payload_core_av1.proofs.Leb128Lemmas.{bound-positive, bound-seven, bound-step}
use Rattle.payload_core_av1.proofs.leb128.+size_within.Goals as goal

pub returns-then-first-lt128-clause-small : goal.returns-then-first-lt128-clause-small
returns-then-first-lt128-clause-small t c =
    omega (arith, bound-step c.args.most (omega arith), bound-positive (c.args.most - 1))

pub overflow_mul-result : goal.overflow_mul-result
overflow_mul-result t c = omega (arith, c.in_ok-size.ensures.small, bound-seven (c.args.most - 1) (omega arith))

pub overflow_add-result : goal.overflow_add-result
overflow_add-result t c = omega (arith, c.in_ok-size.ensures.small, bound-seven (c.args.most - 1) (omega arith))
