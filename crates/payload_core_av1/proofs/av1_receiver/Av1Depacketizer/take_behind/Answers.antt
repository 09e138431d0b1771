use Rattle.std.proofs.Common.{arith}
use Rattle.std.proofs.lemmas.Grind.{common_steps}
use Rattle.payload_core_av1.proofs.av1_receiver.Av1Depacketizer.take_behind.Goals as goal

pub returns-in_default-clause-given : goal.returns-in_default-clause-given
returns-in_default-clause-given c = grind (arith, common_steps)

pub returns-in_default-clause-fragment : goal.returns-in_default-clause-fragment
returns-in_default-clause-fragment c = grind (arith, common_steps)

pub returns-in_default-clause-kept : goal.returns-in_default-clause-kept
returns-in_default-clause-kept c = grind (arith, common_steps)

pub returns-in_default-clause-unchanged : goal.returns-in_default-clause-unchanged
returns-in_default-clause-unchanged c = grind (arith, common_steps)

pub returns-in_default-clause-refused : goal.returns-in_default-clause-refused
returns-in_default-clause-refused c = grind (arith, common_steps)

pub returns-then-is_empty-clause-given : goal.returns-then-is_empty-clause-given
returns-then-is_empty-clause-given c = grind (arith, common_steps)

pub returns-then-is_empty-clause-fragment : goal.returns-then-is_empty-clause-fragment
returns-then-is_empty-clause-fragment c = grind (arith, common_steps)

pub returns-then-is_empty-clause-kept : goal.returns-then-is_empty-clause-kept
returns-then-is_empty-clause-kept c = grind (arith, common_steps)

pub returns-then-is_empty-clause-unchanged : goal.returns-then-is_empty-clause-unchanged
returns-then-is_empty-clause-unchanged c = grind (arith, common_steps)

pub returns-then-is_empty-clause-refused : goal.returns-then-is_empty-clause-refused
returns-then-is_empty-clause-refused c = grind (arith, common_steps)

pub returns-then-is_empty-2-clause-given : goal.returns-then-is_empty-2-clause-given
returns-then-is_empty-2-clause-given c = grind (arith, common_steps)

pub returns-then-is_empty-2-clause-fragment : goal.returns-then-is_empty-2-clause-fragment
returns-then-is_empty-2-clause-fragment c = grind (arith, common_steps)

pub returns-then-is_empty-2-clause-kept : goal.returns-then-is_empty-2-clause-kept
returns-then-is_empty-2-clause-kept c = grind (arith, common_steps)

pub returns-then-is_empty-2-clause-unchanged : goal.returns-then-is_empty-2-clause-unchanged
returns-then-is_empty-2-clause-unchanged c = grind (arith, common_steps)

pub returns-then-is_empty-2-clause-refused : goal.returns-then-is_empty-2-clause-refused
returns-then-is_empty-2-clause-refused c = grind (arith, common_steps)

pub returns-clause-given : goal.returns-clause-given
returns-clause-given c = grind (arith, common_steps)

pub returns-clause-fragment : goal.returns-clause-fragment
returns-clause-fragment c = grind (arith, common_steps)

pub returns-clause-kept : goal.returns-clause-kept
returns-clause-kept c = grind (arith, common_steps)

pub returns-clause-unchanged : goal.returns-clause-unchanged
returns-clause-unchanged c = grind (arith, common_steps)

pub returns-clause-refused : goal.returns-clause-refused
returns-clause-refused c = grind (arith, common_steps)
