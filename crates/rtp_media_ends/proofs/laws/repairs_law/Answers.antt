use Rattle.rtp_media_ends.proofs.Repaired.{counts}
use Rattle.rtp_media_ends.proofs.RepairedArrivals.{received}
use Rattle.rtp_media_ends.proofs.laws.repairs_law.Goals as goal

pub returns-clause-arrives : goal.returns-clause-arrives
returns-clause-arrives c = counts

pub returns-clause-received : goal.returns-clause-received
returns-clause-received c = received
