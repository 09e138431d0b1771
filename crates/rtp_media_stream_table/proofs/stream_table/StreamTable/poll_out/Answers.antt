use Rattle.std.proofs.Common.{Result, Ok, Err, IfOk, OnErr, List}
use Rattle.rtp_media_streams.specs.Polls.{Answers}
use Rattle.rtp_media_stream_table.specs.Polled.{ArePolledOut, ArePolledSome}
use Rattle.rtp_media_stream_table.specs.Indexed.{AreIndexed}
use Rattle.rtp_media_stream_table.specs.declared.open_stream.OpenStream.{OpenStream}
use Rattle.rtp_media_stream_table.specs.declared.stream_index.StreamIndex.{StreamIndex}
use Rattle.rtp_media_stream_table.proofs.Indexing.{polled-out, polled-some}
use Rattle.rtp_media_stream_table.proofs.stream_table.StreamTable.poll_out.Goals as goal

-- whatever the polls come to
indexed : {A E : Type 0} (r : Result A E) (answers : A → List Answers) (senders receivers : StreamIndex)
    (ss ts : List OpenStream) → IfOk r (λ a. ArePolledOut ss (answers a) ts) → OnErr r (ArePolledSome ss ts)
    → AreIndexed senders receivers ss → AreIndexed senders receivers ts
indexed (Ok a) answers senders receivers ss ts out some is = polled-out senders receivers ss ts (answers a) out is
indexed (Err e) answers senders receivers ss ts out some is = polled-some senders receivers ss ts some is

pub invariant_of-self : goal.invariant_of-self
invariant_of-self c =
    indexed c.poll_each.result (λ polls. polls.items) c.self.inside.senders c.self.inside.receivers
    c.self.inside.streams.items c.poll_each.new.streams.items c.poll_each.ensures.out c.poll_each.ensures.some
    c.self.invariant
