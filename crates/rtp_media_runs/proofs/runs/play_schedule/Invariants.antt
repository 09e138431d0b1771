use Rattle.rtp_media_runs.specs.Pushing.{source_at}
use Rattle.rtp_media_runs.proofs.Plays.{IsPlayed}
use Rattle.rtp_media_runs.proofs.runs.play_schedule.Given as goal

abbrev pub invariant-loop-event : goal.invariant-loop-event
invariant-loop-event l = IsPlayed (source_at l.initial.a l.tx l.datagrams) l.tx l.rx l.initial.a
    l.initial.b l.schedule l.event-index l.datagrams l.a l.b l.all.items
