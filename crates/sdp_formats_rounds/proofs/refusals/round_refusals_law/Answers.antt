use Rattle.sdp_formats_rounds.proofs.Rounding.{refusals, refused}
use Rattle.sdp_formats_rounds.proofs.refusals.round_refusals_law.Goals as goal

pub returns-clause-refused : goal.returns-clause-refused
returns-clause-refused c = refusals

pub returns-clause-refuse : goal.returns-clause-refuse
returns-clause-refuse c = refused
