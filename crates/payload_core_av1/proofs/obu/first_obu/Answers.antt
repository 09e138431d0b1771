use Rattle.std.proofs.Common.{arith}
use Rattle.std.proofs.lemmas.Grind.{common_steps}
use Rattle.payload_core_av1.proofs.obu.first_obu.Goals as goal

pub returns-in_err-header-clause-value : goal.returns-in_err-header-clause-value
returns-in_err-header-clause-value c = grind (arith, common_steps)

pub returns-in_err-header-clause-shorter : goal.returns-in_err-header-clause-shorter
returns-in_err-header-clause-shorter c = grind (arith, common_steps)

pub returns-in_err-header-clause-small : goal.returns-in_err-header-clause-small
returns-in_err-header-clause-small c = grind (arith, common_steps)

pub returns-then-not-has_extension-clause-value : goal.returns-then-not-has_extension-clause-value
returns-then-not-has_extension-clause-value c = grind (arith, common_steps)

pub returns-then-not-has_extension-clause-shorter : goal.returns-then-not-has_extension-clause-shorter
returns-then-not-has_extension-clause-shorter c = grind (arith, common_steps)

pub returns-then-not-has_extension-clause-small : goal.returns-then-not-has_extension-clause-small
returns-then-not-has_extension-clause-small c = grind (arith, common_steps)

pub returns-in_err-byte-clause-value : goal.returns-in_err-byte-clause-value
returns-in_err-byte-clause-value c = grind (arith, common_steps)

pub returns-in_err-byte-clause-shorter : goal.returns-in_err-byte-clause-shorter
returns-in_err-byte-clause-shorter c = grind (arith, common_steps)

pub returns-in_err-byte-clause-small : goal.returns-in_err-byte-clause-small
returns-in_err-byte-clause-small c = grind (arith, common_steps)

pub returns-clause-value : goal.returns-clause-value
returns-clause-value c = grind (arith, common_steps)

pub returns-clause-shorter : goal.returns-clause-shorter
returns-clause-shorter c = grind (arith, common_steps)

pub returns-clause-small : goal.returns-clause-small
returns-clause-small c = grind (arith, common_steps)
