use Rattle.std.proofs.Common.{◌≡◌, ◌<◌, arith, length}
use Rattle.std.proofs.lemmas.Grind.{common_steps}
use Rattle.rtp_media_streams.specs.SendSteps.{returned}
use Rattle.rtp_media_stream_table.specs.declared.open_stream.OpenStream.TheVariants.{Sender}
use Rattle.rtp_media_stream_table.specs.Streams.{nth_stream}
use Rattle.rtp_media_stream_table.proofs.SentAt.{indexed-after, sends-at}
use Rattle.rtp_media_stream_table.proofs.stream_table.StreamTable.push_sample.Goals as goal

pub invariant_of-self : goal.invariant_of-self
invariant_of-self c =
    let is : nth_stream c.self.inside.streams.items c.args.stream ≡ Sender c.deref_mut.result.now =
    grind (arith, common_steps) in
    indexed-after c.self.inside.senders c.self.inside.receivers c.self.inside.streams.items c.args.stream
    c.deref_mut.result.now c.push_sample.new.self c.args.time c.args.values.now c.args.bytes.now
    (returned c.push_sample.result) is c.push_sample.ensures.sends c.self.invariant

pub returns : goal.returns
returns c =
    let is : nth_stream c.self.inside.streams.items c.args.stream ≡ Sender c.deref_mut.result.now =
    grind (arith, common_steps) in
    let within : c.args.stream < length c.self.inside.streams.items = grind (arith, common_steps) in
    record {
      sends = sends-at c.args.self.now c.self.inside.streams.items c.args.stream c.deref_mut.result.now
          c.push_sample.new.self c.args.time c.args.values.now c.args.bytes.now (returned c.push_sample.result)
          c.self.view_is within is c.push_sample.ensures.sends;
    }
