use Rattle.std.proofs.Common.{◌≡◌, refl, arith}
use Rattle.std.proofs.lemmas.Grind.{common_steps}
use Rattle.payload_core_base.specs.Outgoing.{Outgoing, outgoing}
use Rattle.rtp_media_streams.specs.PacketSteps.{packet_step}
use Rattle.rtp_media_streams.specs.Sending.{Sending}
use Rattle.rtp_media_stream_table.specs.declared.open_stream.OpenStream.TheVariants.{Sender}
use Rattle.rtp_media_stream_table.specs.Streams.{nth_stream}
use Rattle.rtp_media_stream_table.proofs.MadeAt.{indexed-made, made-at}
use Rattle.rtp_media_stream_table.proofs.stream_table.StreamTable.send_packet.Goals as goal

pub invariant_of-self : goal.invariant_of-self
invariant_of-self c =
    let is : nth_stream c.self.inside.streams.items c.args.stream ≡ Sender c.deref_mut.result.now =
    grind (arith, common_steps) in
    let packet : Outgoing = outgoing c.args.payload.now c.args.marker c.args.time c.args.values.now in
    indexed-made c.self.inside.senders c.self.inside.receivers c.self.inside.streams.items c.args.stream
    c.deref_mut.result.now c.send_packet.new.self (packet_step c.deref_mut.result.now c.args.number packet)
    c.send_packet.result (record { before = refl; ssrc = refl; types = refl }) is c.send_packet.ensures.sends
    c.self.invariant

pub returns-clause-sends : goal.returns-clause-sends
returns-clause-sends c =
    let is : nth_stream c.self.inside.streams.items c.args.stream ≡ Sender c.deref_mut.result.now =
    grind (arith, common_steps) in
    let packet : Outgoing = outgoing c.args.payload.now c.args.marker c.args.time c.args.values.now in
    made-at c.args.self.now c.self.inside.streams.items c.args.stream c.deref_mut.result.now c.send_packet.new.self
    (λ (s : Sending). packet_step s c.args.number packet) c.send_packet.result c.self.view_is is refl
    c.send_packet.ensures.sends
