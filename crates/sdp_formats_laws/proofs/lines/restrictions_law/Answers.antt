use Rattle.sdp_formats_laws.proofs.LimitTexts.{limits_exact}
use Rattle.sdp_formats_laws.proofs.RestrictionTexts.{restrictions_exact}
use Rattle.sdp_formats_laws.proofs.lines.restrictions_law.Goals as goal

pub returns-clause-restrictions : goal.returns-clause-restrictions
returns-clause-restrictions c = restrictions_exact

pub returns-clause-limits : goal.returns-clause-limits
returns-clause-limits c = limits_exact
