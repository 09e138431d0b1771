use Rattle.std.proofs.Common.{arith}
use Rattle.std.proofs.lemmas.Grind.{common_steps}
use Rattle.sdp_formats_values.specs.Candidates.{candidate_place}
use Rattle.sdp_formats_values.proofs.candidate_reader.candidate_place.Goals as goal

pub returns : goal.returns
unfolding candidate_place
returns c = grind (arith, common_steps)
