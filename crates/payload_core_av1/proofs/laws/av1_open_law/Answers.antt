use Rattle.payload_core_av1.proofs.OpenLaw.{empty_law, fresh_law}
use Rattle.payload_core_av1.proofs.laws.av1_open_law.Goals as goal

pub returns : goal.returns
returns c = record { fresh = fresh_law; empty = empty_law }
