use Rattle.rtp_media_schedules.proofs.Withheld.{nothing-withheld}
use Rattle.rtp_media_schedules.proofs.losses.nothing_withheld.Goals as goal

pub returns : goal.returns
returns c = nothing-withheld
