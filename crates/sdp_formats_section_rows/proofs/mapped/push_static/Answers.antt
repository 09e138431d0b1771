use Rattle.std.proofs.Common.{arith}
use Rattle.std.proofs.lemmas.Grind.{common_steps}
use Rattle.sdp_formats_section_rows.proofs.mapped.push_static.Goals as goal

pub returns-in_default-clause-met : goal.returns-in_default-clause-met
returns-in_default-clause-met c = grind (arith, common_steps)

pub returns-then-is_listed-clause-met : goal.returns-then-is_listed-clause-met
returns-then-is_listed-clause-met c = grind (arith, common_steps)

pub returns-in_err-push_unless_mapped-clause-mappings : goal.returns-in_err-push_unless_mapped-clause-mappings
returns-in_err-push_unless_mapped-clause-mappings c = grind (arith, common_steps)

pub returns-in_err-push_unless_mapped-clause-met : goal.returns-in_err-push_unless_mapped-clause-met
returns-in_err-push_unless_mapped-clause-met c = grind (arith, common_steps)

pub returns-in_err-push-clause-mappings : goal.returns-in_err-push-clause-mappings
returns-in_err-push-clause-mappings c = grind (arith, common_steps)

pub returns-in_err-push-clause-met : goal.returns-in_err-push-clause-met
returns-in_err-push-clause-met c = grind (arith, common_steps)

pub returns-clause-met : goal.returns-clause-met
returns-clause-met c = grind (arith, common_steps)
