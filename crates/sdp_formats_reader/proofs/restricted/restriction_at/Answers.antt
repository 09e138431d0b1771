use Rattle.std.proofs.Common.{arith}
use Rattle.std.proofs.lemmas.Grind.{common_steps}
use Rattle.sdp_formats_reader.specs.Pairs.{restriction_at}
use Rattle.sdp_formats_reader.proofs.restricted.restriction_at.Goals as goal

pub returns : goal.returns
unfolding restriction_at
returns c = grind (arith, common_steps)
