use Rattle.std.proofs.Common.{arith}
use Rattle.std.proofs.lemmas.Grind.{common_steps}
use Rattle.rtp_media_program.proofs.exchange.rest_of_row.Goals as goal

pub returns-in_err-codec : goal.returns-in_err-codec
returns-in_err-codec g = grind (arith, common_steps)

pub returns-in_err-clock_rate : goal.returns-in_err-clock_rate
returns-in_err-clock_rate g = grind (arith, common_steps)

pub returns-in_err-channels : goal.returns-in_err-channels
returns-in_err-channels g = grind (arith, common_steps)

pub returns-in_err-format : goal.returns-in_err-format
returns-in_err-format g = grind (arith, common_steps)

pub returns-in_err-end : goal.returns-in_err-end
returns-in_err-end g = grind (arith, common_steps)
