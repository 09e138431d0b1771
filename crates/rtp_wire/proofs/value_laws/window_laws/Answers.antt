use Rattle.rtp_wire.proofs.WindowLaws.{accepts-all_at, accepts-all_after}
use Rattle.rtp_wire.proofs.value_laws.window_laws.Goals as goal

pub returns-clause-from_one : goal.returns-clause-from_one
returns-clause-from_one c = accepts-all_at

pub returns-clause-after_one : goal.returns-clause-after_one
returns-clause-after_one c = accepts-all_after
