use Rattle.std.proofs.Common.{arith}
use Rattle.std.proofs.lemmas.Grind.{common_steps}
use Rattle.sdp_formats_rounds.proofs.config.rounds.run_all.Goals as goal

pub loop-section-init : goal.loop-section-init
loop-section-init c = grind (arith, common_steps)

pub returns-in_err-round-clause-ok : goal.returns-in_err-round-clause-ok
returns-in_err-round-clause-ok c = grind (arith, common_steps)

pub returns-in_err-round-clause-refused : goal.returns-in_err-round-clause-refused
returns-in_err-round-clause-refused c = grind (arith, common_steps)

pub loop-section-smaller : goal.loop-section-smaller
loop-section-smaller c = grind (arith, common_steps)

pub loop-section-preserved : goal.loop-section-preserved
loop-section-preserved c = grind (arith, common_steps)

pub returns-clause-ok : goal.returns-clause-ok
returns-clause-ok c = grind (arith, common_steps)

pub returns-clause-refused : goal.returns-clause-refused
returns-clause-refused c = grind (arith, common_steps)
