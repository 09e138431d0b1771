use Rattle.std.proofs.Common.{◌≡◌, ◌<◌, arith, length, sym}
use Rattle.std.proofs.lemmas.Grind.{common_steps}
use Rattle.rtp_media_stream_table.specs.declared.open_stream.OpenStream.TheVariants.{Sender}
use Rattle.rtp_media_stream_table.specs.Streams.{nth_stream}
use Rattle.rtp_media_stream_table.proofs.Indexing.{closed-sender}
use Rattle.rtp_media_stream_table.proofs.stream_table.StreamTable.close_sender.Goals as goal

pub invariant_of-self : goal.invariant_of-self
invariant_of-self c =
    let is : nth_stream c.self.inside.streams.items c.args.stream ≡ Sender c.deref-sending.result.now =
    grind (arith, common_steps) in
    let within : c.args.stream < length c.self.inside.streams.items = grind (arith, common_steps) in
    closed-sender c.self.inside.senders c.remove_types.new.self c.self.inside.receivers c.self.inside.streams.items
    c.args.stream c.deref-sending.result.now c.ssrc-ssrc.result c.types-types.result is (sym c.ssrc-ssrc.ensures)
    (sym c.types-types.ensures) within
    c.remove_types.ensures.others c.self.invariant
