use Rattle.std.proofs.Common.{◌≡◌, ℕ, ◌+◌, ◌++◌, List, length, map}
use Rattle.std.specs.Vec.Iter.{into_iter_items}
use Rattle.rtp_media_streams.specs.Made.{datagrams_with, without_prefix}
use Rattle.payload_core_base.specs.Packing.{with_prefix}
use Rattle.payload_core_base.specs.Sending.{outgoing_from}
use Rattle.rtp_media_streams.proofs.making.Making.number_all.Given as goal

-- the datagrams so far, and then those of the packets that are left
abbrev pub invariant-loop-packet : goal.invariant-loop-packet
invariant-loop-packet g l =
    let p = g.P.Packetizer in
    let rest = map (λ v. v.items) (into_iter_items l.packet-iterator) in
    let out = λ (ps : List (List ℕ)). outgoing_from (p.packing l.fn.packetizer) (without_prefix l.header ps)
    l.self.time l.self.values.now in
    record {
      packing : p.packing l.packetizer ≡ p.packing l.fn.packetizer;
      sender : p.sender l.packetizer ≡ p.sender l.fn.packetizer;
      count : length l.datagrams.items + length rest ≡ l.count;
      prefixed : rest ≡ with_prefix l.header (without_prefix l.header rest);
      made : l.datagrams.items
          ++ datagrams_with l.self.stamp.now (l.self.first + length l.datagrams.items) (out rest)
          ≡ datagrams_with l.self.stamp.now l.self.first (out (map (λ v. v.items) l.fn.packets.items));
    }
