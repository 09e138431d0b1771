use Rattle.std.proofs.Common.{arith}
use Rattle.std.proofs.lemmas.Grind.{common_steps}
use Rattle.sdp_formats_rounds.proofs.config.CodecConfig.round_all.Goals as goal

pub returns-in_err-params-clause-ok : goal.returns-in_err-params-clause-ok
returns-in_err-params-clause-ok c = grind (arith, common_steps)

pub returns-in_err-params-clause-refused : goal.returns-in_err-params-clause-refused
returns-in_err-params-clause-refused c = grind (arith, common_steps)

pub returns-in_err-params-clause-unchanged : goal.returns-in_err-params-clause-unchanged
returns-in_err-params-clause-unchanged c = grind (arith, common_steps)

pub returns-in_err-params-clause-distances : goal.returns-in_err-params-clause-distances
returns-in_err-params-clause-distances c = grind (arith, common_steps)

pub returns-in_err-run_all-clause-ok : goal.returns-in_err-run_all-clause-ok
returns-in_err-run_all-clause-ok c = grind (arith, common_steps)

pub returns-in_err-run_all-clause-unchanged : goal.returns-in_err-run_all-clause-unchanged
returns-in_err-run_all-clause-unchanged c = grind (arith, common_steps)

pub returns-in_err-run_all-clause-distances : goal.returns-in_err-run_all-clause-distances
returns-in_err-run_all-clause-distances c = grind (arith, common_steps)

pub returns-clause-refused : goal.returns-clause-refused
returns-clause-refused c = grind (arith, common_steps)

pub returns-clause-unchanged : goal.returns-clause-unchanged
returns-clause-unchanged c = grind (arith, common_steps)

pub returns-clause-distances : goal.returns-clause-distances
returns-clause-distances c = grind (arith, common_steps)
