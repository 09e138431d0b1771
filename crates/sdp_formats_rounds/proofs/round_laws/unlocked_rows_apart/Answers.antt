use Rattle.sdp_formats_rounds.proofs.Left.{unlocked_rows_apart}
use Rattle.sdp_formats_rounds.proofs.round_laws.unlocked_rows_apart.Goals as goal

pub returns : goal.returns
returns c = unlocked_rows_apart
