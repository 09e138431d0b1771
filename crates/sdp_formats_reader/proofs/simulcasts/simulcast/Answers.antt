use Rattle.std.proofs.Common.{arith}
use Rattle.std.proofs.lemmas.Grind.{common_steps}
use Rattle.sdp_formats_reader.proofs.simulcasts.simulcast.Goals as goal

pub returns : goal.returns
returns c = grind (arith, common_steps)

pub returns-in_err-word : goal.returns-in_err-word
returns-in_err-word c = grind (arith, common_steps)

pub returns-in_err-direction : goal.returns-in_err-direction
returns-in_err-direction c = grind (arith, common_steps)

pub returns-in_err-layers : goal.returns-in_err-layers
returns-in_err-layers c = grind (arith, common_steps)

pub returns-in_err-other : goal.returns-in_err-other
returns-in_err-other c = grind (arith, common_steps)

pub returns-then-not-is_other : goal.returns-then-not-is_other
returns-then-not-is_other c = grind (arith, common_steps)
