use Rattle.std.proofs.Common.{arith}
use Rattle.std.proofs.lemmas.Grind.{common_steps}
use Rattle.sdp_formats_values.specs.Candidates.{candidate_carrier}
use Rattle.sdp_formats_values.proofs.candidate_reader.candidate_carrier.Goals as goal

pub returns : goal.returns
unfolding candidate_carrier
returns c = grind (arith, common_steps)
