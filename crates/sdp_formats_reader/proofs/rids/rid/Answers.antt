use Rattle.std.proofs.Common.{arith}
use Rattle.std.proofs.lemmas.Grind.{common_steps}
use Rattle.sdp_formats_reader.proofs.rids.rid.Goals as goal

pub returns : goal.returns
returns c = grind (arith, common_steps)

pub returns-in_err-word : goal.returns-in_err-word
returns-in_err-word c = grind (arith, common_steps)

pub returns-in_err-name : goal.returns-in_err-name
returns-in_err-name c = grind (arith, common_steps)

pub returns-in_err-direction : goal.returns-in_err-direction
returns-in_err-direction c = grind (arith, common_steps)

pub returns-in_err-maybe_limits : goal.returns-in_err-maybe_limits
returns-in_err-maybe_limits c = grind (arith, common_steps)
