use Rattle.sdp_formats_rounds.proofs.Holds.{locked_types_distinct}
use Rattle.sdp_formats_rounds.proofs.round_laws.locked_types_distinct.Goals as goal

pub returns : goal.returns
returns c = locked_types_distinct
