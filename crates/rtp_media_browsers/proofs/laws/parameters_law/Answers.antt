use Rattle.rtp_media_browsers.proofs.KnownLaw.{reads_known}
use Rattle.rtp_media_browsers.proofs.laws.parameters_law.Goals as goal

pub returns : goal.returns
returns c = reads_known c.pairs_law.ensures c.printed_pairs_law.ensures.pairs
