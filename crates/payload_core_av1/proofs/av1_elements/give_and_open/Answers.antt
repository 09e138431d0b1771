use Rattle.std.proofs.Common.{arith}
use Rattle.std.proofs.lemmas.Grind.{common_steps}
use Rattle.payload_core_av1.proofs.av1_elements.give_and_open.Goals as goal

pub returns-in_err-give_all-clause-given : goal.returns-in_err-give_all-clause-given
returns-in_err-give_all-clause-given c = grind (arith, common_steps)

pub returns-in_err-give_all-clause-fragment : goal.returns-in_err-give_all-clause-fragment
returns-in_err-give_all-clause-fragment c = grind (arith, common_steps)

pub returns-in_err-give_all-clause-kept : goal.returns-in_err-give_all-clause-kept
returns-in_err-give_all-clause-kept c = grind (arith, common_steps)

pub returns-in_err-give_all-clause-refused : goal.returns-in_err-give_all-clause-refused
returns-in_err-give_all-clause-refused c = grind (arith, common_steps)

pub returns-then-not-opens_last-clause-given : goal.returns-then-not-opens_last-clause-given
returns-then-not-opens_last-clause-given c = grind (arith, common_steps)

pub returns-then-not-opens_last-clause-fragment : goal.returns-then-not-opens_last-clause-fragment
returns-then-not-opens_last-clause-fragment c = grind (arith, common_steps)

pub returns-then-not-opens_last-clause-kept : goal.returns-then-not-opens_last-clause-kept
returns-then-not-opens_last-clause-kept c = grind (arith, common_steps)

pub returns-then-not-opens_last-clause-refused : goal.returns-then-not-opens_last-clause-refused
returns-then-not-opens_last-clause-refused c = grind (arith, common_steps)

pub returns-in_default-clause-given : goal.returns-in_default-clause-given
returns-in_default-clause-given c = grind (arith, common_steps)

pub returns-in_default-clause-fragment : goal.returns-in_default-clause-fragment
returns-in_default-clause-fragment c = grind (arith, common_steps)

pub returns-in_default-clause-kept : goal.returns-in_default-clause-kept
returns-in_default-clause-kept c = grind (arith, common_steps)

pub returns-in_default-clause-refused : goal.returns-in_default-clause-refused
returns-in_default-clause-refused c = grind (arith, common_steps)

pub returns-in_err-opened-clause-given : goal.returns-in_err-opened-clause-given
returns-in_err-opened-clause-given c = grind (arith, common_steps)

pub returns-in_err-opened-clause-fragment : goal.returns-in_err-opened-clause-fragment
returns-in_err-opened-clause-fragment c = grind (arith, common_steps)

pub returns-in_err-opened-clause-kept : goal.returns-in_err-opened-clause-kept
returns-in_err-opened-clause-kept c = grind (arith, common_steps)

pub returns-in_err-opened-clause-refused : goal.returns-in_err-opened-clause-refused
returns-in_err-opened-clause-refused c = grind (arith, common_steps)

pub returns-in_err-give_all-2-clause-given : goal.returns-in_err-give_all-2-clause-given
returns-in_err-give_all-2-clause-given c = grind (arith, common_steps)

pub returns-in_err-give_all-2-clause-fragment : goal.returns-in_err-give_all-2-clause-fragment
returns-in_err-give_all-2-clause-fragment c = grind (arith, common_steps)

pub returns-in_err-give_all-2-clause-kept : goal.returns-in_err-give_all-2-clause-kept
returns-in_err-give_all-2-clause-kept c = grind (arith, common_steps)

pub returns-in_err-give_all-2-clause-refused : goal.returns-in_err-give_all-2-clause-refused
returns-in_err-give_all-2-clause-refused c = grind (arith, common_steps)

pub returns-clause-given : goal.returns-clause-given
returns-clause-given c = grind (arith, common_steps)

pub returns-clause-fragment : goal.returns-clause-fragment
returns-clause-fragment c = grind (arith, common_steps)

pub returns-clause-kept : goal.returns-clause-kept
returns-clause-kept c = grind (arith, common_steps)

pub returns-clause-refused : goal.returns-clause-refused
returns-clause-refused c = grind (arith, common_steps)
