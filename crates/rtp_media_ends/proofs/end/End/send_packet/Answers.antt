use Rattle.payload_core_base.specs.Outgoing.{outgoing}
use Rattle.rtp_media_streams.specs.PacketSteps.{packet_step}
use Rattle.rtp_media_streams.specs.Sending.{Sending}
use Rattle.rtp_media_ends.proofs.MadeAt.{made-at}
use Rattle.rtp_media_ends.proofs.end.End.send_packet.Goals as goal

pub returns-clause-sends : goal.returns-clause-sends
returns-clause-sends c =
    made-at c.args.self.now c.self.inside.exchange c.self.inside.streams c.send_packet.new.self c.args.stream
    (λ (s : Sending). packet_step s c.args.number
    (outgoing c.args.payload.now c.args.marker c.args.time c.args.values.now)) c.send_packet.result c.self.view_is
    c.send_packet.ensures.sends
