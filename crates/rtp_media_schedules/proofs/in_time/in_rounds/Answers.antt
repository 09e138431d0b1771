use Rattle.rtp_media_schedules.proofs.PromptSamples.{rounds-samples}
use Rattle.rtp_media_schedules.proofs.in_time.in_rounds.Goals as goal

pub returns : goal.returns
returns c = rounds-samples
