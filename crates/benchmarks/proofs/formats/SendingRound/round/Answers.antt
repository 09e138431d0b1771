use Rattle.payload_core.specs.Payloaders.{packetizer_of}
use Rattle.benchmarks.proofs.SentLemmas.{counted}
use Rattle.benchmarks.proofs.formats.SendingRound.round.Goals as goal
use Rattle.std.proofs.Common.{refl}

pub returns : goal.returns
returns g c =
    let p = g.P.Packetizer in
    let old = packetizer_of c.args.self.now.payloader in
    let new = packetizer_of c.push_sample.new.self in
    record {
      counted =
          counted (p.packing old) ((p.packing old).pack (p.sender old) 1200 c.args.self.now.sample.now) c.args.number
          c.args.self.now.values (record c.args.self.now.line { tally = c.args.tally.now }) c.push_sample.new.sink
          (p.sender old) (p.sender new) c.push_sample.result c.push_sample.ensures.sent c.push_sample.ensures.refused
          c.push_sample.ensures.memory;
      line = refl;
      packing_stays = c.push_sample.ensures.packing;
      sample_stays = refl;
      values_stay = refl;
    }
