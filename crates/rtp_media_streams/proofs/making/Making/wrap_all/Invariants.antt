use Rattle.std.proofs.Common.{◌≡◌, ◌+◌, ◌++◌, List, drop, length, map}
use Rattle.payload_core_base.specs.Outgoing.{Outgoing}
use Rattle.payload_core_base.specs.Sending.{outgoing_from}
use Rattle.rtp_media_streams.specs.Made.{datagrams_with}
use Rattle.rtp_media_streams.specs.Redundant.{kept_after, wraps}
use Rattle.rtp_media_streams.proofs.making.Making.wrap_all.Given as goal

-- the datagrams so far, and then those of the packets that are left
abbrev pub invariant-loop-i : goal.invariant-loop-i
invariant-loop-i g l =
    let p = g.P.Packetizer in
    let all : List Outgoing = outgoing_from (p.packing l.fn.packetizer) (map (λ v. v.items) l.packets) l.self.time
    l.self.values.now in
    record {
      packing : p.packing l.packetizer ≡ p.packing l.fn.packetizer;
      sender : p.sender l.packetizer ≡ p.sender l.fn.packetizer;
      count : length l.datagrams.items ≡ l.i;
      made : l.datagrams.items ++ datagrams_with l.self.stamp.now (l.self.first + l.i)
          (wraps l.pt l.mtu l.sender (drop l.i all)) ≡ datagrams_with l.self.stamp.now l.self.first
          (wraps l.pt l.mtu l.fn.sender all);
      kept : kept_after l.pt l.sender (drop l.i all) ≡ kept_after l.pt l.fn.sender all;
    }
