use Rattle.std.proofs.Common.{◌≡◌, arith, ap}
use Rattle.std.proofs.lemmas.Grind.{common_steps}
use Rattle.rtp_media_streams.specs.Polls.{found}
use Rattle.rtp_media_streams.specs.Receiving.{Receiving, with_stream}
use Rattle.rtp_media_streams.proofs.Polling.{step-keeps}
use Rattle.rtp_media_stream_table.specs.declared.open_stream.OpenStream.TheVariants.{Receiver}
use Rattle.rtp_media_stream_table.specs.Streams.{nth_stream}
use Rattle.rtp_media_stream_table.proofs.Indexing.{kept-receiver}
use Rattle.rtp_media_stream_table.proofs.stream_table.StreamTable.poll.Goals as goal

pub invariant_of-self : goal.invariant_of-self
invariant_of-self c =
    let is : nth_stream c.self.inside.streams.items c.args.stream ≡ Receiver c.deref_mut.result.now =
    grind (arith, common_steps) in
    let same : c.poll.new.self ≡ with_stream c.deref_mut.result.now c.poll.new.self.stream =
    step-keeps c.deref_mut.result.now c.poll.new.self (found c.poll.result) c.poll.ensures.answers in
    kept-receiver c.self.inside.senders c.self.inside.receivers c.self.inside.streams.items c.args.stream
    c.deref_mut.result.now c.poll.new.self is (ap (λ (r : Receiving). r.ssrc) same)
    (ap (λ (r : Receiving). r.types) same) c.self.invariant
