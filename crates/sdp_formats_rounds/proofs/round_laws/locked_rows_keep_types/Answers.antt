use Rattle.sdp_formats_rounds.proofs.Holds.{locked_rows_keep}
use Rattle.sdp_formats_rounds.proofs.round_laws.locked_rows_keep_types.Goals as goal

pub returns : goal.returns
returns c = locked_rows_keep
