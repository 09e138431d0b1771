use Rattle.std.proofs.Common.{arith}
use Rattle.std.proofs.lemmas.Grind.{common_steps}
use Rattle.payload_core_av1.proofs.obu.Obu.push_with_size.Goals as goal

pub returns-in_err-push_header-clause-written : goal.returns-in_err-push_header-clause-written
returns-in_err-push_header-clause-written c = grind (arith, common_steps)

pub returns-in_err-push_header-clause-kept : goal.returns-in_err-push_header-clause-kept
returns-in_err-push_header-clause-kept c = grind (arith, common_steps)

pub returns-in_err-push_size-clause-written : goal.returns-in_err-push_size-clause-written
returns-in_err-push_size-clause-written c = grind (arith, common_steps)

pub returns-in_err-push_size-clause-kept : goal.returns-in_err-push_size-clause-kept
returns-in_err-push_size-clause-kept c = grind (arith, common_steps)

pub returns-in_err-extend_from_slice-clause-written : goal.returns-in_err-extend_from_slice-clause-written
returns-in_err-extend_from_slice-clause-written c = grind (arith, common_steps)

pub returns-in_err-extend_from_slice-clause-kept : goal.returns-in_err-extend_from_slice-clause-kept
returns-in_err-extend_from_slice-clause-kept c = grind (arith, common_steps)

pub returns-clause-written : goal.returns-clause-written
returns-clause-written c = grind (arith, common_steps)

pub returns-clause-kept : goal.returns-clause-kept
returns-clause-kept c = grind (arith, common_steps)
