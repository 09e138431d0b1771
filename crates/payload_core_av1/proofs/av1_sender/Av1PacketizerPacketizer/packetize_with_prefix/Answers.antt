use Rattle.payload_core_av1.proofs.SampleLemmas.{kept-texts}
use Rattle.payload_core_av1.proofs.av1_sender.Av1PacketizerPacketizer.packetize_with_prefix.Goals as goal

pub packets-requires-clause-texts : goal.packets-requires-clause-texts
packets-requires-clause-texts c = kept-texts c.args.bytes.now c.in-Ok.kept.texts.items c.in-Ok.ensures.texts
