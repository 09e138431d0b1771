use Rattle.rtp_media_ends.proofs.MayOpen.{may-receive, may-send, receives-at, sends-at}
use Rattle.rtp_media_ends.proofs.laws.openings_law.Goals as goal

pub returns-clause-sends : goal.returns-clause-sends
returns-clause-sends c = λ end mid ssrc pt. (sends-at end mid ssrc pt, may-send end mid ssrc pt)

pub returns-clause-receives : goal.returns-clause-receives
returns-clause-receives c = λ end mid ssrc pt. (receives-at end mid ssrc pt, may-receive end mid ssrc pt)
