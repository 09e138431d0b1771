use Rattle.sdp_formats_rows.proofs.Range.{score_in}
use Rattle.sdp_formats_rows.proofs.score.scores_in_range.Goals as goal

pub returns : goal.returns
returns c = score_in
