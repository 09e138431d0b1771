use Rattle.rtp_media_streams.specs.SendSteps.{left_in}
use Rattle.rtp_media_ends.proofs.SentAt.{sends-at}
use Rattle.rtp_media_ends.proofs.end.End.push_sample_into.Goals as goal

pub returns : goal.returns
returns c = record {
  sends = sends-at c.args.self.now c.self.inside.exchange c.self.inside.streams c.push_sample_into.new.self
      c.args.stream c.args.time c.args.values.now c.args.bytes.now
      (left_in c.push_sample_into.new.datagrams.items c.push_sample_into.result) c.self.view_is
      c.push_sample_into.ensures.sends;
  empty = c.push_sample_into.ensures.empty;
}
