use Rattle.std.proofs.Common.{arith}
use Rattle.std.proofs.lemmas.Grind.{common_steps}
use Rattle.rtp_media_ends.proofs.end.End.open_unsignalled.Goals as goal

pub returns-in_err-stream-clause-number : goal.returns-in_err-stream-clause-number
returns-in_err-stream-clause-number c = grind (arith, common_steps)

pub returns-in_err-stream-clause-opens : goal.returns-in_err-stream-clause-opens
returns-in_err-stream-clause-opens c = grind (arith, common_steps)

pub returns-in_err-stream-clause-after : goal.returns-in_err-stream-clause-after
returns-in_err-stream-clause-after c = grind (arith, common_steps)

pub returns-in_err-stream-clause-receiver : goal.returns-in_err-stream-clause-receiver
returns-in_err-stream-clause-receiver c = grind (arith, common_steps)

pub returns-in_err-stream-clause-receives : goal.returns-in_err-stream-clause-receives
returns-in_err-stream-clause-receives c = grind (arith, common_steps)

pub returns-in_err-stream-clause-refused : goal.returns-in_err-stream-clause-refused
returns-in_err-stream-clause-refused c = grind (arith, common_steps)

pub returns-in_err-stream-clause-unchanged : goal.returns-in_err-stream-clause-unchanged
returns-in_err-stream-clause-unchanged c = grind (arith, common_steps)

pub returns-in_err-add_receiver-clause-number : goal.returns-in_err-add_receiver-clause-number
returns-in_err-add_receiver-clause-number c = grind (arith, common_steps)

pub returns-in_err-add_receiver-clause-opens : goal.returns-in_err-add_receiver-clause-opens
returns-in_err-add_receiver-clause-opens c = grind (arith, common_steps)

pub returns-in_err-add_receiver-clause-after : goal.returns-in_err-add_receiver-clause-after
returns-in_err-add_receiver-clause-after c = grind (arith, common_steps)

pub returns-in_err-add_receiver-clause-receiver : goal.returns-in_err-add_receiver-clause-receiver
returns-in_err-add_receiver-clause-receiver c = grind (arith, common_steps)

pub returns-in_err-add_receiver-clause-receives : goal.returns-in_err-add_receiver-clause-receives
returns-in_err-add_receiver-clause-receives c = grind (arith, common_steps)

pub returns-in_err-add_receiver-clause-refused : goal.returns-in_err-add_receiver-clause-refused
returns-in_err-add_receiver-clause-refused c = grind (arith, common_steps)

pub returns-clause-number : goal.returns-clause-number
returns-clause-number c = grind (arith, common_steps)

pub returns-clause-opens : goal.returns-clause-opens
returns-clause-opens c = grind (arith, common_steps)

pub returns-clause-receives : goal.returns-clause-receives
returns-clause-receives c = grind (arith, common_steps)

pub returns-clause-refused : goal.returns-clause-refused
returns-clause-refused c = grind (arith, common_steps)

pub returns-clause-unchanged : goal.returns-clause-unchanged
returns-clause-unchanged c = grind (arith, common_steps)
