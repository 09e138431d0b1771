use Rattle.sdp_formats_rounds.proofs.Holds.{rows_become}
use Rattle.sdp_formats_rounds.proofs.round_laws.rows_become.Goals as goal

pub returns : goal.returns
returns c = rows_become
