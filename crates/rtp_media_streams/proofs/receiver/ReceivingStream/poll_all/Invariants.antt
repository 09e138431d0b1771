use Rattle.std.proofs.Common.{length}
use Rattle.rtp_media_streams.specs.Polls.{IsPolledSome, poll_step}
use Rattle.rtp_media_streams.specs.Receiving.{Receiving}
use Rattle.rtp_media_streams.proofs.Polling.{IsPolledSo}
use Rattle.rtp_media_streams.proofs.receiver.ReceivingStream.poll_all.Given as goal

-- the answers so far, and then what the stream as it is now answers, are what it answered from the start
abbrev pub invariant-loop-answers : goal.invariant-loop-answers
invariant-loop-answers l = record {
  so : IsPolledSo poll_step l.initial.self l.self l.answers.items;
  some : (after : Receiving) → IsPolledSome poll_step l.self after → IsPolledSome poll_step l.initial.self after;
}

abbrev pub decreases-loop-answers : goal.decreases-loop-answers
decreases-loop-answers l = length l.self.stream.held
