use Rattle.rtp_media_streams.specs.SendSteps.{returned}
use Rattle.rtp_media_ends.proofs.SentAt.{sends-at}
use Rattle.rtp_media_ends.proofs.end.End.push_sample.Goals as goal

pub returns : goal.returns
returns c = record {
  sends = sends-at c.args.self.now c.self.inside.exchange c.self.inside.streams c.push_sample.new.self c.args.stream
      c.args.time c.args.values.now c.args.bytes.now (returned c.push_sample.result) c.self.view_is
      c.push_sample.ensures.sends;
}
