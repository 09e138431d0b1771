use Rattle.sdp_formats_rounds.proofs.AllApart.{all_apart, unlocked_apart}
use Rattle.sdp_formats_rounds.proofs.type_laws.all_are_apart.Goals as goal

pub returns-clause-all : goal.returns-clause-all
returns-clause-all c = all_apart

pub returns-clause-unlocked : goal.returns-clause-unlocked
returns-clause-unlocked c = unlocked_apart
