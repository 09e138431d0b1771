use Rattle.std.proofs.Common.{arith}
use Rattle.std.proofs.lemmas.Grind.{common_steps}
use Rattle.rtp_media_program.proofs.line.rest_of_send.Goals as goal

pub returns-in_err-first : goal.returns-in_err-first
returns-in_err-first g = grind (arith, common_steps)

pub returns-in_err-mtu : goal.returns-in_err-mtu
returns-in_err-mtu g = grind (arith, common_steps)

pub returns-in_err-limit : goal.returns-in_err-limit
returns-in_err-limit g = grind (arith, common_steps)

pub returns-in_err-distances : goal.returns-in_err-distances
returns-in_err-distances g = grind (arith, common_steps)

pub returns-in_err-picture_id : goal.returns-in_err-picture_id
returns-in_err-picture_id g = grind (arith, common_steps)

pub returns-in_err-end : goal.returns-in_err-end
returns-in_err-end g = grind (arith, common_steps)
