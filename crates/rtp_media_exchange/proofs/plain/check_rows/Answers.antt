use Rattle.std.proofs.Common.{arith}
use Rattle.std.proofs.lemmas.Grind.{common_steps}
use Rattle.rtp_media_exchange.proofs.plain.check_rows.Goals as goal

pub returns-in_err-is_plain-clause-ok : goal.returns-in_err-is_plain-clause-ok
returns-in_err-is_plain-clause-ok c = grind (arith, common_steps)

pub returns-in_err-is_plain-clause-refused : goal.returns-in_err-is_plain-clause-refused
returns-in_err-is_plain-clause-refused c = grind (arith, common_steps)

pub returns-then-not-branch-clause-ok : goal.returns-then-not-branch-clause-ok
returns-then-not-branch-clause-ok c = grind (arith, common_steps)

pub returns-then-not-branch-clause-refused : goal.returns-then-not-branch-clause-refused
returns-then-not-branch-clause-refused c = grind (arith, common_steps)

pub loop-place-preserved : goal.loop-place-preserved
loop-place-preserved c = grind (arith, common_steps)

pub returns-clause-ok : goal.returns-clause-ok
returns-clause-ok c = grind (arith, common_steps)

pub returns-clause-refused : goal.returns-clause-refused
returns-clause-refused c = grind (arith, common_steps)
