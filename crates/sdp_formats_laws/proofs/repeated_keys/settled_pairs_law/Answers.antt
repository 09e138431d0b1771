use Rattle.sdp_formats_laws.proofs.SettledPairs.{pairs_settled}
use Rattle.sdp_formats_laws.proofs.repeated_keys.settled_pairs_law.Goals as goal

pub returns : goal.returns
returns c = pairs_settled
