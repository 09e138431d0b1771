use Rattle.sdp_formats_rows.proofs.Symmetry.{score_symmetric}
use Rattle.sdp_formats_rows.proofs.score.scores_symmetric.Goals as goal

pub returns : goal.returns
returns c = score_symmetric
