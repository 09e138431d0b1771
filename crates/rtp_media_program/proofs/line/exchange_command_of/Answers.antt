use Rattle.std.proofs.Common.{arith}
use Rattle.std.proofs.lemmas.Grind.{common_steps}
use Rattle.rtp_media_program.proofs.line.exchange_command_of.Goals as goal

pub returns-in-row : goal.returns-in-row
returns-in-row g = grind (arith, common_steps)

pub returns-in-ext : goal.returns-in-ext
returns-in-ext g = grind (arith, common_steps)

pub returns-in-end : goal.returns-in-end
returns-in-end g = grind (arith, common_steps)

pub returns-in-offer : goal.returns-in-offer
returns-in-offer g = grind (arith, common_steps)

pub returns-in-answer : goal.returns-in-answer
returns-in-answer g = grind (arith, common_steps)

pub returns-in-accept : goal.returns-in-accept
returns-in-accept g = grind (arith, common_steps)

pub returns-in-withdraw : goal.returns-in-withdraw
returns-in-withdraw g = grind (arith, common_steps)

pub returns-in-connect : goal.returns-in-connect
returns-in-connect g = grind (arith, common_steps)
