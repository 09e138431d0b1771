use Rattle.std.proofs.Common.{arith}
use Rattle.std.proofs.lemmas.Grind.{common_steps}
use Rattle.payload_core_av1.proofs.obu.push_header.Goals as goal

pub returns-in_err-push-clause-written : goal.returns-in_err-push-clause-written
returns-in_err-push-clause-written c = grind (arith, common_steps)

pub returns-in_err-push-clause-kept : goal.returns-in_err-push-clause-kept
returns-in_err-push-clause-kept c = grind (arith, common_steps)

pub returns-in_err-push-2-clause-written : goal.returns-in_err-push-2-clause-written
returns-in_err-push-2-clause-written c = grind (arith, common_steps)

pub returns-in_err-push-2-clause-kept : goal.returns-in_err-push-2-clause-kept
returns-in_err-push-2-clause-kept c = grind (arith, common_steps)

pub returns-in_ok-push-2-clause-written : goal.returns-in_ok-push-2-clause-written
returns-in_ok-push-2-clause-written c = grind (arith, common_steps)

pub returns-in_ok-push-2-clause-kept : goal.returns-in_ok-push-2-clause-kept
returns-in_ok-push-2-clause-kept c = grind (arith, common_steps)

pub returns-in_default-clause-written : goal.returns-in_default-clause-written
returns-in_default-clause-written c = grind (arith, common_steps)

pub returns-in_default-clause-kept : goal.returns-in_default-clause-kept
returns-in_default-clause-kept c = grind (arith, common_steps)
