use Rattle.sdp_formats_rounds.proofs.Greatest.{best_is_best, none_matches}
use Rattle.sdp_formats_rounds.proofs.match_laws.best_is_best.Goals as goal

pub returns-clause-best : goal.returns-clause-best
returns-clause-best c = best_is_best

pub returns-clause-none : goal.returns-clause-none
returns-clause-none c = none_matches
