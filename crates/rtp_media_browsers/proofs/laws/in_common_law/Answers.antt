use Rattle.rtp_media_browsers.proofs.InCommonLaws.{answers_in_common, only_rejects}
use Rattle.rtp_media_browsers.proofs.laws.in_common_law.Goals as goal

pub returns-clause-others : goal.returns-clause-others
returns-clause-others c = only_rejects

pub returns-clause-answers : goal.returns-clause-answers
returns-clause-answers c = answers_in_common
