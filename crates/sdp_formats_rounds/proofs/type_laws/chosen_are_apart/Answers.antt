use Rattle.sdp_formats_rounds.proofs.Chosen.{as_all, chosen_apart}
use Rattle.sdp_formats_rounds.proofs.type_laws.chosen_are_apart.Goals as goal

pub returns-clause-apart : goal.returns-clause-apart
returns-clause-apart c = chosen_apart

pub returns-clause-all : goal.returns-clause-all
returns-clause-all c = as_all
