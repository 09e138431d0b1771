use Rattle.std.proofs.Common.{arith}
use Rattle.std.proofs.lemmas.Grind.{common_steps}
use Rattle.sdp_formats_values.specs.Candidates.{candidate_fields}
use Rattle.sdp_formats_values.proofs.candidate_reader.candidate_fields.Goals as goal

pub returns : goal.returns
unfolding candidate_fields
returns c = grind (arith, common_steps)
