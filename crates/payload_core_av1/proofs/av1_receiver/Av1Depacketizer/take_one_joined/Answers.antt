use Rattle.std.proofs.Common.{arith}
use Rattle.std.proofs.lemmas.Grind.{common_steps}
use Rattle.payload_core_av1.proofs.av1_receiver.Av1Depacketizer.take_one_joined.Goals as goal

pub returns-in_default-clause-given : goal.returns-in_default-clause-given
returns-in_default-clause-given c = grind (arith, common_steps)

pub returns-in_default-clause-fragment : goal.returns-in_default-clause-fragment
returns-in_default-clause-fragment c = grind (arith, common_steps)

pub returns-in_default-clause-kept : goal.returns-in_default-clause-kept
returns-in_default-clause-kept c = grind (arith, common_steps)

pub returns-in_default-clause-unchanged : goal.returns-in_default-clause-unchanged
returns-in_default-clause-unchanged c = grind (arith, common_steps)

pub returns-in_default-clause-refused : goal.returns-in_default-clause-refused
returns-in_default-clause-refused c = grind (arith, common_steps)

pub returns-in_err-extend_from_slice-clause-given : goal.returns-in_err-extend_from_slice-clause-given
returns-in_err-extend_from_slice-clause-given c = grind (arith, common_steps)

pub returns-in_err-extend_from_slice-clause-fragment : goal.returns-in_err-extend_from_slice-clause-fragment
returns-in_err-extend_from_slice-clause-fragment c = grind (arith, common_steps)

pub returns-in_err-extend_from_slice-clause-kept : goal.returns-in_err-extend_from_slice-clause-kept
returns-in_err-extend_from_slice-clause-kept c = grind (arith, common_steps)

pub returns-in_err-extend_from_slice-clause-unchanged : goal.returns-in_err-extend_from_slice-clause-unchanged
returns-in_err-extend_from_slice-clause-unchanged c = grind (arith, common_steps)

pub returns-in_err-extend_from_slice-clause-refused : goal.returns-in_err-extend_from_slice-clause-refused
returns-in_err-extend_from_slice-clause-refused c = grind (arith, common_steps)

pub returns-then-opens_last-clause-given : goal.returns-then-opens_last-clause-given
returns-then-opens_last-clause-given c = grind (arith, common_steps)

pub returns-then-opens_last-clause-fragment : goal.returns-then-opens_last-clause-fragment
returns-then-opens_last-clause-fragment c = grind (arith, common_steps)

pub returns-then-opens_last-clause-kept : goal.returns-then-opens_last-clause-kept
returns-then-opens_last-clause-kept c = grind (arith, common_steps)

pub returns-then-opens_last-clause-unchanged : goal.returns-then-opens_last-clause-unchanged
returns-then-opens_last-clause-unchanged c = grind (arith, common_steps)

pub returns-then-opens_last-clause-refused : goal.returns-then-opens_last-clause-refused
returns-then-opens_last-clause-refused c = grind (arith, common_steps)

pub returns-in_err-give_joined-clause-given : goal.returns-in_err-give_joined-clause-given
returns-in_err-give_joined-clause-given c = grind (arith, common_steps)

pub returns-in_err-give_joined-clause-fragment : goal.returns-in_err-give_joined-clause-fragment
returns-in_err-give_joined-clause-fragment c = grind (arith, common_steps)

pub returns-in_err-give_joined-clause-kept : goal.returns-in_err-give_joined-clause-kept
returns-in_err-give_joined-clause-kept c = grind (arith, common_steps)

pub returns-in_err-give_joined-clause-unchanged : goal.returns-in_err-give_joined-clause-unchanged
returns-in_err-give_joined-clause-unchanged c = grind (arith, common_steps)

pub returns-in_err-give_joined-clause-refused : goal.returns-in_err-give_joined-clause-refused
returns-in_err-give_joined-clause-refused c = grind (arith, common_steps)

pub returns-clause-given : goal.returns-clause-given
returns-clause-given c = grind (arith, common_steps)

pub returns-clause-fragment : goal.returns-clause-fragment
returns-clause-fragment c = grind (arith, common_steps)

pub returns-clause-kept : goal.returns-clause-kept
returns-clause-kept c = grind (arith, common_steps)

pub returns-clause-unchanged : goal.returns-clause-unchanged
returns-clause-unchanged c = grind (arith, common_steps)

pub returns-clause-refused : goal.returns-clause-refused
returns-clause-refused c = grind (arith, common_steps)
