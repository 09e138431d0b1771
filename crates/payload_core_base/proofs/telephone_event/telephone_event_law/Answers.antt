use Rattle.payload_core_base.proofs.TelephoneLemmas.{reports_come_back}
use Rattle.payload_core_base.proofs.telephone_event.telephone_event_law.Goals as goal

pub returns : goal.returns
returns c = reports_come_back
