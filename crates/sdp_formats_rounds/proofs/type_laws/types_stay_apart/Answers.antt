use Rattle.sdp_formats_rounds.proofs.AllApart.{rounds_keep_apart}
use Rattle.sdp_formats_rounds.proofs.Unlocked.{unlocked_stay_apart}
use Rattle.sdp_formats_rounds.proofs.type_laws.types_stay_apart.Goals as goal

pub returns-clause-unlocked : goal.returns-clause-unlocked
returns-clause-unlocked c = unlocked_stay_apart

pub returns-clause-rounds : goal.returns-clause-rounds
returns-clause-rounds c = rounds_keep_apart
