use Rattle.std.proofs.Common.{arith}
use Rattle.std.proofs.lemmas.Grind.{common_steps}
use Rattle.jilqamur.proofs.depacketizer.jilqamur_depacketizer_open.Goals as goal

pub returns-then-is_open-clause-opened : goal.returns-then-is_open-clause-opened
returns-then-is_open-clause-opened g c = grind (arith, common_steps)

pub returns-then-is_open-clause-held_none : goal.returns-then-is_open-clause-held_none
returns-then-is_open-clause-held_none g c = grind (arith, common_steps)

pub returns-then-is_open-clause-accepted : goal.returns-then-is_open-clause-accepted
returns-then-is_open-clause-accepted g c = grind (arith, common_steps)

pub returns-then-is_open-clause-in_use : goal.returns-then-is_open-clause-in_use
returns-then-is_open-clause-in_use g c = grind (arith, common_steps)

pub returns-then-is_open-clause-only_in_use : goal.returns-then-is_open-clause-only_in_use
returns-then-is_open-clause-only_in_use g c = grind (arith, common_steps)

pub returns-then-is_open-clause-refusal : goal.returns-then-is_open-clause-refusal
returns-then-is_open-clause-refusal g c = grind (arith, common_steps)

pub returns-then-is_open-clause-unchanged : goal.returns-then-is_open-clause-unchanged
returns-then-is_open-clause-unchanged g c = grind (arith, common_steps)

pub returns-in-Err-clause-opened : goal.returns-in-Err-clause-opened
returns-in-Err-clause-opened g c = grind (arith, common_steps)

pub returns-in-Err-clause-held_none : goal.returns-in-Err-clause-held_none
returns-in-Err-clause-held_none g c = grind (arith, common_steps)

pub returns-in-Err-clause-accepted : goal.returns-in-Err-clause-accepted
returns-in-Err-clause-accepted g c = grind (arith, common_steps)

pub returns-in-Err-clause-in_use : goal.returns-in-Err-clause-in_use
returns-in-Err-clause-in_use g c = grind (arith, common_steps)

pub returns-in-Err-clause-only_in_use : goal.returns-in-Err-clause-only_in_use
returns-in-Err-clause-only_in_use g c = grind (arith, common_steps)

pub returns-in-Err-clause-refusal : goal.returns-in-Err-clause-refusal
returns-in-Err-clause-refusal g c = grind (arith, common_steps)

pub returns-in-Err-clause-unchanged : goal.returns-in-Err-clause-unchanged
returns-in-Err-clause-unchanged g c = grind (arith, common_steps)

pub returns-in-Ok-new-clause-opened : goal.returns-in-Ok-new-clause-opened
returns-in-Ok-new-clause-opened g c = grind (arith, common_steps)

pub returns-in-Ok-new-clause-held_none : goal.returns-in-Ok-new-clause-held_none
returns-in-Ok-new-clause-held_none g c = grind (arith, common_steps)

pub returns-in-Ok-new-clause-accepted : goal.returns-in-Ok-new-clause-accepted
returns-in-Ok-new-clause-accepted g c = grind (arith, common_steps)

pub returns-in-Ok-new-clause-in_use : goal.returns-in-Ok-new-clause-in_use
returns-in-Ok-new-clause-in_use g c = grind (arith, common_steps)

pub returns-in-Ok-new-clause-only_in_use : goal.returns-in-Ok-new-clause-only_in_use
returns-in-Ok-new-clause-only_in_use g c = grind (arith, common_steps)

pub returns-in-Ok-new-clause-refusal : goal.returns-in-Ok-new-clause-refusal
returns-in-Ok-new-clause-refusal g c = grind (arith, common_steps)

pub returns-in-Ok-new-clause-unchanged : goal.returns-in-Ok-new-clause-unchanged
returns-in-Ok-new-clause-unchanged g c = grind (arith, common_steps)

pub returns-clause-opened : goal.returns-clause-opened
returns-clause-opened g c = grind (arith, common_steps)

pub returns-clause-held_none : goal.returns-clause-held_none
returns-clause-held_none g c = grind (arith, common_steps)

pub returns-clause-accepted : goal.returns-clause-accepted
returns-clause-accepted g c = grind (arith, common_steps)

pub returns-clause-in_use : goal.returns-clause-in_use
returns-clause-in_use g c = grind (arith, common_steps)

pub returns-clause-only_in_use : goal.returns-clause-only_in_use
returns-clause-only_in_use g c = grind (arith, common_steps)

pub returns-clause-refusal : goal.returns-clause-refusal
returns-clause-refusal g c = grind (arith, common_steps)

pub returns-clause-unchanged : goal.returns-clause-unchanged
returns-clause-unchanged g c = grind (arith, common_steps)
