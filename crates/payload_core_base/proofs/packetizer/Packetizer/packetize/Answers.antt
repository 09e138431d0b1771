use Rattle.std.proofs.Common.{map}
use Rattle.std.proofs.lemmas.Result.{IfOk-weaker}
use Rattle.payload_core_base.proofs.PrefixLemmas.{sends-without}
use Rattle.payload_core_base.proofs.packetizer.Packetizer.packetize.Goals as goal

pub returns-clause-packets : goal.returns-clause-packets
returns-clause-packets g c = IfOk-weaker c.packetize_with_prefix.result _ _
    (λ ps sends. sends-without _ (map (λ p. p.items) ps.items) _ sends) c.packetize_with_prefix.ensures.packets
