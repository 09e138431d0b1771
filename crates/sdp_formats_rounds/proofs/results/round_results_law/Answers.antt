use Rattle.sdp_formats_rounds.proofs.Rounding.{answered, answers}
use Rattle.sdp_formats_rounds.proofs.results.round_results_law.Goals as goal

pub returns-clause-answered : goal.returns-clause-answered
returns-clause-answered c = answers

pub returns-clause-answer : goal.returns-clause-answer
returns-clause-answer c = answered
