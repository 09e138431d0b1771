use Rattle.std.proofs.Common.{length, arith}
use Rattle.rtp_media_schedules.proofs.Polls.{polls-end}
use Rattle.rtp_media_schedules.proofs.laws.polls_come_to_an_end.Goals as goal

pub returns : goal.returns
returns c format s = polls-end format (length s.held) s (omega arith)
