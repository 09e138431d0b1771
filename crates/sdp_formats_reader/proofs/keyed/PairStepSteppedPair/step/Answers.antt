use Rattle.sdp_formats_reader.proofs.PairRounds.{pair-steps, pair-shortens}
use Rattle.sdp_formats_reader.proofs.keyed.PairStepSteppedPair.step.Goals as goal

pub returns-clause-steps : goal.returns-clause-steps
returns-clause-steps c = pair-steps _ _ c.pair_at.ensures

pub returns-clause-shortens : goal.returns-clause-shortens
returns-clause-shortens c = pair-shortens _ _ c.pair_at.ensures
