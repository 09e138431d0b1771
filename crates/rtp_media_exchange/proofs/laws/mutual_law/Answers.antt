use Rattle.rtp_media_exchange.proofs.MutualLemmas.{exchanges_mutual, repairs_mutual}
use Rattle.rtp_media_exchange.proofs.laws.mutual_law.Goals as goal

pub returns-clause-sections : goal.returns-clause-sections
returns-clause-sections c = exchanges_mutual

pub returns-clause-repairs : goal.returns-clause-repairs
returns-clause-repairs c = repairs_mutual
