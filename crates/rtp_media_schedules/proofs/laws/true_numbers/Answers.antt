use Rattle.rtp_media_schedules.proofs.TrueNumbers.{true-numbers}
use Rattle.rtp_media_schedules.proofs.laws.true_numbers.Goals as goal

pub returns : goal.returns
returns c format sender holding first count turns fits sane =
    true-numbers format sender first count fits holding turns sane
