use Rattle.rtp_media_streams.proofs.MadeLemmas.{are-prefixed, made-of}
use Rattle.rtp_media_streams.proofs.making.Making.plain.Goals as goal

pub number_all-requires-clause-packets : goal.number_all-requires-clause-packets
number_all-requires-clause-packets g c = are-prefixed _ _ _ _ c.in_ok-packets.ensures.packets

pub returns-clause-made : goal.returns-clause-made
returns-clause-made g c =
    made-of c.args.self.now.stamp.now c.args.self.now.first (g.P.Packetizer.packing c.args.packetizer.now) _ _ _ _ _ _
    c.args.self.now.time c.args.self.now.values.now _ c.in_ok-packets.ensures.packets c.in_ok-packets.ensures.packing
    c.in_ok-number_all.ensures.sender c.in_ok-number_all.ensures.made
