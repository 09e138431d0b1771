use Rattle.std.proofs.Common.{arith}
use Rattle.std.proofs.lemmas.Grind.{common_steps}
use Rattle.sdp_formats_values.specs.Candidates.{related_in}
use Rattle.sdp_formats_values.proofs.candidate_reader.related_in.Goals as goal

pub returns : goal.returns
unfolding related_in
returns c = grind (arith, common_steps)
