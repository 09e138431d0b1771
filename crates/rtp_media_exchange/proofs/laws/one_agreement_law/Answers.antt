use Rattle.rtp_media_exchange.proofs.OneAgreement.{same_maps, same_rows}
use Rattle.rtp_media_exchange.proofs.laws.one_agreement_law.Goals as goal

pub returns-clause-rows : goal.returns-clause-rows
returns-clause-rows c = same_rows

pub returns-clause-maps : goal.returns-clause-maps
returns-clause-maps c = same_maps
