use Rattle.std.proofs.Common.{arith}
use Rattle.std.proofs.lemmas.Grind.{common_steps}
use Rattle.sdp_formats_values.specs.Candidates.{ufrag_field}
use Rattle.sdp_formats_values.proofs.candidate_reader.ufrag_field.Goals as goal

pub returns : goal.returns
unfolding ufrag_field
returns c = grind (arith, common_steps)
