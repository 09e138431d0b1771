use Rattle.std.proofs.Common.{refl}
use Rattle.rtp_media_schedules.proofs.Drains.{same-polls}
use Rattle.rtp_media_schedules.proofs.Samples.{drained-samples}
use Rattle.rtp_media_schedules.proofs.laws.legal_with_drains.Goals as goal

pub returns-clause-legal : goal.returns-clause-legal
returns-clause-legal c format holding first samples turns sent fits sane =
    drained-samples format samples sent holding first turns fits sane

pub returns-clause-polls : goal.returns-clause-polls
returns-clause-polls c format sender s turns = same-polls format sender s.holding.hold_back turns s refl
