use Rattle.std.proofs.Common.{arith}
use Rattle.std.proofs.lemmas.Grind.{common_steps}
use Rattle.payload_core_av1.proofs.av1_elements.give.Goals as goal

pub returns-then-is_empty-clause-given : goal.returns-then-is_empty-clause-given
returns-then-is_empty-clause-given c = grind (arith, common_steps)

pub returns-then-is_empty-clause-kept : goal.returns-then-is_empty-clause-kept
returns-then-is_empty-clause-kept c = grind (arith, common_steps)

pub returns-then-is_empty-clause-refused : goal.returns-then-is_empty-clause-refused
returns-then-is_empty-clause-refused c = grind (arith, common_steps)

pub returns-in_default-clause-given : goal.returns-in_default-clause-given
returns-in_default-clause-given c = grind (arith, common_steps)

pub returns-in_default-clause-kept : goal.returns-in_default-clause-kept
returns-in_default-clause-kept c = grind (arith, common_steps)

pub returns-in_default-clause-refused : goal.returns-in_default-clause-refused
returns-in_default-clause-refused c = grind (arith, common_steps)

pub returns-in_err-push_with_size-clause-given : goal.returns-in_err-push_with_size-clause-given
returns-in_err-push_with_size-clause-given c = grind (arith, common_steps)

pub returns-in_err-push_with_size-clause-kept : goal.returns-in_err-push_with_size-clause-kept
returns-in_err-push_with_size-clause-kept c = grind (arith, common_steps)

pub returns-in_err-push_with_size-clause-refused : goal.returns-in_err-push_with_size-clause-refused
returns-in_err-push_with_size-clause-refused c = grind (arith, common_steps)

pub returns-in_ok-push_with_size-clause-given : goal.returns-in_ok-push_with_size-clause-given
returns-in_ok-push_with_size-clause-given c = grind (arith, common_steps)

pub returns-in_ok-push_with_size-clause-kept : goal.returns-in_ok-push_with_size-clause-kept
returns-in_ok-push_with_size-clause-kept c = grind (arith, common_steps)

pub returns-in_ok-push_with_size-clause-refused : goal.returns-in_ok-push_with_size-clause-refused
returns-in_ok-push_with_size-clause-refused c = grind (arith, common_steps)

pub returns-else-is_kept-clause-given : goal.returns-else-is_kept-clause-given
returns-else-is_kept-clause-given c = grind (arith, common_steps)

pub returns-else-is_kept-clause-kept : goal.returns-else-is_kept-clause-kept
returns-else-is_kept-clause-kept c = grind (arith, common_steps)

pub returns-else-is_kept-clause-refused : goal.returns-else-is_kept-clause-refused
returns-else-is_kept-clause-refused c = grind (arith, common_steps)
