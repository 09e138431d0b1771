use Rattle.rtp_media_schedules.proofs.HoldBacks.{few-above, kept-by-poll}
use Rattle.rtp_media_schedules.proofs.hold_back.hold_back_law.Goals as goal

pub returns-clause-few : goal.returns-clause-few
returns-clause-few c = few-above

pub returns-clause-kept : goal.returns-clause-kept
returns-clause-kept c = kept-by-poll
