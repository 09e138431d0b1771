use Rattle.rtp_media_schedules.proofs.Samples.{legal-samples}
use Rattle.rtp_media_schedules.proofs.laws.legal_under_sane_schedule.Goals as goal

pub returns : goal.returns
returns c format holding first samples turns sent fits sane =
    legal-samples format samples sent holding first turns fits sane
