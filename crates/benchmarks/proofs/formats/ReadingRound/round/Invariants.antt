use Rattle.std.proofs.Common.{◌≡◌, [], map}
use Rattle.payload_core.specs.Pops.{no_extra}
use Rattle.benchmarks.specs.Read.{ReadsFirst, reader}
use Rattle.benchmarks.proofs.formats.ReadingRound.round.Given as goal

-- the packets so far were read
abbrev pub invariant-loop-packet : goal.invariant-loop-packet
invariant-loop-packet g l =
    let d = g.D.Depacketizer in
    record {
      read : ReadsFirst (d.format l.fn.self.depacketizer) (map (λ p. p.items) l.packets) l.packet-index
          (reader [] no_extra (d.fragment l.fn.self.depacketizer))
          (reader l.self.out.items l.extra (d.fragment l.self.depacketizer));
      format_stays : d.format l.self.depacketizer ≡ d.format l.fn.self.depacketizer;
      packets_stay : l.self.packets ≡ l.fn.self.packets;
    }
