use Rattle.std.proofs.Common.{arith}
use Rattle.std.proofs.lemmas.Grind.{common_steps}
use Rattle.sdp_formats_rounds.proofs.rounds.round.Goals as goal

pub returns-in_err-after-clause-ok : goal.returns-in_err-after-clause-ok
returns-in_err-after-clause-ok c = grind (arith, common_steps)

pub returns-in_err-after-clause-refused : goal.returns-in_err-after-clause-refused
returns-in_err-after-clause-refused c = grind (arith, common_steps)

pub returns-in_err-after-clause-unchanged : goal.returns-in_err-after-clause-unchanged
returns-in_err-after-clause-unchanged c = grind (arith, common_steps)

pub returns-in_err-turn_rows-clause-ok : goal.returns-in_err-turn_rows-clause-ok
returns-in_err-turn_rows-clause-ok c = grind (arith, common_steps)

pub returns-in_err-turn_rows-clause-refused : goal.returns-in_err-turn_rows-clause-refused
returns-in_err-turn_rows-clause-refused c = grind (arith, common_steps)

pub returns-in_err-turn_rows-clause-unchanged : goal.returns-in_err-turn_rows-clause-unchanged
returns-in_err-turn_rows-clause-unchanged c = grind (arith, common_steps)

pub returns-clause-ok : goal.returns-clause-ok
returns-clause-ok c = grind (arith, common_steps)

pub returns-clause-refused : goal.returns-clause-refused
returns-clause-refused c = grind (arith, common_steps)

pub returns-clause-unchanged : goal.returns-clause-unchanged
returns-clause-unchanged c = grind (arith, common_steps)
