use Rattle.sdp_formats_rounds.proofs.Standings.{apart, refuse}
use Rattle.sdp_formats_rounds.proofs.refusals.locked_types_law.Goals as goal

pub returns-clause-refuse : goal.returns-clause-refuse
returns-clause-refuse c = refuse

pub returns-clause-apart : goal.returns-clause-apart
returns-clause-apart c = apart
