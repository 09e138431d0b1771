use Rattle.rtp_media_schedules.proofs.PollSteps.{less-after, none-left}
use Rattle.rtp_media_schedules.proofs.laws.poll_laws.Goals as goal

pub returns-clause-fewer : goal.returns-clause-fewer
returns-clause-fewer c = less-after

pub returns-clause-none : goal.returns-clause-none
returns-clause-none c = none-left
