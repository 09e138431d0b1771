use Rattle.std.proofs.Common.{arith}
use Rattle.std.proofs.lemmas.Grind.{common_steps}
use Rattle.rtp_media_ends.proofs.end.End.open_sender.Goals as goal

pub returns-in_err-stream-clause-number : goal.returns-in_err-stream-clause-number
returns-in_err-stream-clause-number c = grind (arith, common_steps)

pub returns-in_err-stream-clause-opens : goal.returns-in_err-stream-clause-opens
returns-in_err-stream-clause-opens c = grind (arith, common_steps)

pub returns-in_err-stream-clause-after : goal.returns-in_err-stream-clause-after
returns-in_err-stream-clause-after c = grind (arith, common_steps)

pub returns-in_err-stream-clause-stream : goal.returns-in_err-stream-clause-stream
returns-in_err-stream-clause-stream c = grind (arith, common_steps)

pub returns-in_err-stream-clause-sender : goal.returns-in_err-stream-clause-sender
returns-in_err-stream-clause-sender c = grind (arith, common_steps)

pub returns-in_err-stream-clause-sends : goal.returns-in_err-stream-clause-sends
returns-in_err-stream-clause-sends c = grind (arith, common_steps)

pub returns-in_err-stream-clause-refused : goal.returns-in_err-stream-clause-refused
returns-in_err-stream-clause-refused c = grind (arith, common_steps)

pub returns-in_err-stream-clause-unchanged : goal.returns-in_err-stream-clause-unchanged
returns-in_err-stream-clause-unchanged c = grind (arith, common_steps)

pub returns-in_err-add_sender-clause-number : goal.returns-in_err-add_sender-clause-number
returns-in_err-add_sender-clause-number c = grind (arith, common_steps)

pub returns-in_err-add_sender-clause-opens : goal.returns-in_err-add_sender-clause-opens
returns-in_err-add_sender-clause-opens c = grind (arith, common_steps)

pub returns-in_err-add_sender-clause-after : goal.returns-in_err-add_sender-clause-after
returns-in_err-add_sender-clause-after c = grind (arith, common_steps)

pub returns-in_err-add_sender-clause-stream : goal.returns-in_err-add_sender-clause-stream
returns-in_err-add_sender-clause-stream c = grind (arith, common_steps)

pub returns-in_err-add_sender-clause-sender : goal.returns-in_err-add_sender-clause-sender
returns-in_err-add_sender-clause-sender c = grind (arith, common_steps)

pub returns-in_err-add_sender-clause-sends : goal.returns-in_err-add_sender-clause-sends
returns-in_err-add_sender-clause-sends c = grind (arith, common_steps)

pub returns-in_err-add_sender-clause-refused : goal.returns-in_err-add_sender-clause-refused
returns-in_err-add_sender-clause-refused c = grind (arith, common_steps)

pub returns-in_err-add_sender-clause-unchanged : goal.returns-in_err-add_sender-clause-unchanged
returns-in_err-add_sender-clause-unchanged c = grind (arith, common_steps)

pub returns-clause-number : goal.returns-clause-number
returns-clause-number c = grind (arith, common_steps)

pub returns-clause-opens : goal.returns-clause-opens
returns-clause-opens c = grind (arith, common_steps)

pub returns-clause-stream : goal.returns-clause-stream
returns-clause-stream c = grind (arith, common_steps)

pub returns-clause-sender : goal.returns-clause-sender
returns-clause-sender c = grind (arith, common_steps)

pub returns-clause-sends : goal.returns-clause-sends
returns-clause-sends c = grind (arith, common_steps)

pub returns-clause-refused : goal.returns-clause-refused
returns-clause-refused c = grind (arith, common_steps)

pub returns-clause-unchanged : goal.returns-clause-unchanged
returns-clause-unchanged c = grind (arith, common_steps)
