use Rattle.rtp_media_streams.specs.Receiving.{stream_of}
use Rattle.rtp_media_streams.proofs.Polling.{poll-seen}
use Rattle.rtp_media_streams.proofs.receiver.ReceivingStream.poll.Goals as goal

pub returns : goal.returns
returns c = record {
  answers = rw c.handed_out.ensures (poll-seen (record {
    ssrc = c.self.inside.ssrc;
    types = c.self.inside.types;
    map = c.self.inside.exts;
    row = c.self.inside.row;
    stream = stream_of c.self.inside.window c.self.inside.buffer _;
  }) _ c.self.view_is _ c.unit_at.new.self.holding _ _ c.self.invariant.0 c.unit_at.ensures.pops.same_holding
      (rw c.hold_back.ensures at c.unit_at.ensures.pops.answers));
}
