use Rattle.sdp_formats_reader.proofs.PairRounds.{pairs-exact}
use Rattle.sdp_formats_reader.proofs.laws.pairs_law.Goals as goal

pub returns : goal.returns
returns c = pairs-exact
