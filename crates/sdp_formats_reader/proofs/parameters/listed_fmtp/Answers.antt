use Rattle.std.proofs.Common.{arith}
use Rattle.std.proofs.lemmas.Grind.{common_steps}
use Rattle.sdp_formats_reader.proofs.parameters.listed_fmtp.Goals as goal

pub returns : goal.returns
returns c = grind (arith, common_steps)
