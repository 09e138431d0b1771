use Rattle.rtp_media_streams.specs.PacketSteps.{repair_step}
use Rattle.rtp_media_streams.specs.Sending.{Sending}
use Rattle.rtp_media_ends.proofs.MadeAt.{made-at}
use Rattle.rtp_media_ends.proofs.end.End.repair.Goals as goal

pub returns-clause-repairs : goal.returns-clause-repairs
returns-clause-repairs c =
    made-at c.args.self.now c.self.inside.exchange c.self.inside.streams c.repair.new.self c.args.stream
    (λ (s : Sending). repair_step s c.args.datagram.now) c.repair.result c.self.view_is c.repair.ensures.repairs
