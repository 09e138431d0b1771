use Rattle.std.proofs.Common.{◌≡◌, arith, ap, Result, Ok, Err, IfOk, OnErr}
use Rattle.std.proofs.lemmas.Grind.{common_steps}
use Rattle.rtp_media_streams.specs.Polls.{Answers, IsPolled, IsPolledSome, poll_step}
use Rattle.rtp_media_streams.specs.Receiving.{Receiving, with_stream}
use Rattle.rtp_media_streams.proofs.Polling.{polled-keeps, some-keeps}
use Rattle.rtp_media_stream_table.specs.declared.open_stream.OpenStream.TheVariants.{Receiver}
use Rattle.rtp_media_stream_table.specs.Streams.{nth_stream}
use Rattle.rtp_media_stream_table.proofs.Indexing.{kept-receiver}
use Rattle.rtp_media_stream_table.proofs.stream_table.StreamTable.poll_all.Goals as goal

-- whatever the polls come to
kept : {A E : Type 0} (res : Result A E) (answers : A → Answers) (r t : Receiving)
    → IfOk res (λ a. IsPolled poll_step r (answers a) t) → OnErr res (IsPolledSome poll_step r t)
    → t ≡ with_stream r t.stream
kept (Ok a) answers r t polled some = polled-keeps polled
kept (Err e) answers r t polled some = some-keeps some

pub invariant_of-self : goal.invariant_of-self
invariant_of-self c =
    let is : nth_stream c.self.inside.streams.items c.args.stream ≡ Receiver c.deref_mut.result.now =
    grind (arith, common_steps) in
    let same : c.poll_all.new.self ≡ with_stream c.deref_mut.result.now c.poll_all.new.self.stream =
    kept c.poll_all.result (λ v. v.items) c.deref_mut.result.now c.poll_all.new.self c.poll_all.ensures.polled
    c.poll_all.ensures.some in
    kept-receiver c.self.inside.senders c.self.inside.receivers c.self.inside.streams.items c.args.stream
    c.deref_mut.result.now c.poll_all.new.self is (ap (λ (r : Receiving). r.ssrc) same)
    (ap (λ (r : Receiving). r.types) same) c.self.invariant
