use Rattle.std.proofs.Common.{arith}
use Rattle.std.proofs.lemmas.Grind.{common_steps}
use Rattle.sdp_formats_data.specs.ListedCandidates.{session_candidate}
use Rattle.sdp_formats_data.proofs.listed_candidates.push_of_session.Goals as goal

pub loop-attribute-preserved : goal.loop-attribute-preserved
unfolding session_candidate
loop-attribute-preserved c = grind (arith, common_steps)

pub returns : goal.returns
returns c = grind (arith, common_steps)
