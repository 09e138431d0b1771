use Rattle.sdp_formats_rounds.proofs.Suggested.{suggested_types_taken}
use Rattle.sdp_formats_rounds.proofs.round_laws.suggested_types_taken.Goals as goal

pub returns : goal.returns
returns c = suggested_types_taken
