use Rattle.rtp_media_schedules.proofs.Cuts.{after-append, heard-append, silent-stays}
use Rattle.rtp_media_schedules.proofs.runs.run_laws.Goals as goal

pub returns-clause-answers : goal.returns-clause-answers
returns-clause-answers c = heard-append

pub returns-clause-after : goal.returns-clause-after
returns-clause-after c = after-append

pub returns-clause-silent : goal.returns-clause-silent
returns-clause-silent c = silent-stays
