use Rattle.sdp_formats_reader.proofs.PairRounds.{restriction-steps, restriction-shortens}
use Rattle.sdp_formats_reader.proofs.restricted.RestrictionStepSteppedPair.step.Goals as goal

pub returns-clause-steps : goal.returns-clause-steps
returns-clause-steps c = restriction-steps _ _ c.restriction_at.ensures

pub returns-clause-shortens : goal.returns-clause-shortens
returns-clause-shortens c = restriction-shortens _ _ c.restriction_at.ensures
