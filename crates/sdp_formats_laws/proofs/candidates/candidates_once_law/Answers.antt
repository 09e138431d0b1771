use Rattle.sdp_formats_laws.proofs.SameCandidates.{added_once, one_once}
use Rattle.sdp_formats_laws.proofs.candidates.candidates_once_law.Goals as goal

pub returns : goal.returns
returns c = record { exactly = added_once; one = one_once }
