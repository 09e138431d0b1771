use Rattle.std.proofs.Common.{arith}
use Rattle.std.proofs.lemmas.Grind.{common_steps}
use Rattle.sdp_formats_rounds.proofs.agreed.matched_row.Goals as goal

pub returns-in_err-pt : goal.returns-in_err-pt
returns-in_err-pt c = grind (arith, common_steps)

pub returns-in_err-resend : goal.returns-in_err-resend
returns-in_err-resend c = grind (arith, common_steps)

pub returns-in_err-red : goal.returns-in_err-red
returns-in_err-red c = grind (arith, common_steps)

pub returns : goal.returns
returns c = grind (arith, common_steps)
