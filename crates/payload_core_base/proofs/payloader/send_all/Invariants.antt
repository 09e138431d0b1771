use Rattle.std.proofs.Common.{◌≡◌, map, take}
use Rattle.payload_core_base.specs.Outgoing.{TakesAll}
use Rattle.payload_core_base.specs.Sending.{outgoing_from}
use Rattle.payload_core_base.proofs.payloader.send_all.Given as goal

-- the sink took the packets so far
abbrev pub invariant-loop-i : goal.invariant-loop-i
invariant-loop-i g l =
    let p = g.P.Packetizer in
    record {
      packing : p.packing l.packetizer ≡ p.packing l.fn.packetizer;
      sender : p.sender l.packetizer ≡ p.sender l.fn.packetizer;
      taken : TakesAll g.S.PacketSink.takes l.fn.sink
          (take l.i (outgoing_from (p.packing l.fn.packetizer) (map (λ v. v.items) l.packets) l.time l.values)) l.sink;
    }
