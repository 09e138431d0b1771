use Rattle.std.proofs.Common.{◌≡◌, arith, ap}
use Rattle.std.proofs.lemmas.Grind.{common_steps}
use Rattle.rtp_media_streams.specs.Sending.{Sending}
use Rattle.rtp_media_stream_table.specs.declared.open_stream.OpenStream.TheVariants.{Sender}
use Rattle.rtp_media_stream_table.specs.Streams.{nth_stream}
use Rattle.rtp_media_stream_table.proofs.Indexing.{kept-sender}
use Rattle.rtp_media_stream_table.proofs.stream_table.StreamTable.skip_to.Goals as goal

pub invariant_of-self : goal.invariant_of-self
invariant_of-self c =
    let is : nth_stream c.self.inside.streams.items c.args.stream ≡ Sender c.deref_mut.result.now =
    grind (arith, common_steps) in
    kept-sender c.self.inside.senders c.self.inside.receivers c.self.inside.streams.items c.args.stream
    c.deref_mut.result.now c.skip_to.new.self is
    (ap (λ (s : Sending). s.ssrc) c.skip_to.ensures)
    (ap (λ (s : Sending). s.types) c.skip_to.ensures) c.self.invariant
