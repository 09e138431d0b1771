use Rattle.std.proofs.Common.{arith}
use Rattle.std.proofs.lemmas.Grind.{common_steps}
use Rattle.sdp_formats_values.specs.Candidates.{candidate}
use Rattle.sdp_formats_values.proofs.candidate_reader.candidate_of.Goals as goal

pub returns : goal.returns
unfolding candidate
returns c = grind (arith, common_steps)
