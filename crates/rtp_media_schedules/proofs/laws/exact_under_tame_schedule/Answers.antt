use Rattle.rtp_media_schedules.proofs.Samples.{exact-samples}
use Rattle.rtp_media_schedules.proofs.laws.exact_under_tame_schedule.Goals as goal

pub returns : goal.returns
returns c format holding first samples turns sent fits tame silent =
    exact-samples format samples sent holding first turns fits tame silent
