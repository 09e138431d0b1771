use Rattle.std.proofs.Common.{refl}
use Rattle.jilqamur.proofs.Cutting.{cut-behind}
use Rattle.jilqamur.proofs.packet_outbox.PacketOutbox.cut.Goals as goal

pub returns-in-Ok-clause-after : goal.returns-in-Ok-clause-after
returns-in-Ok-clause-after c = λ no.
    cut-behind _ _ _ _ _ _ c.self.view_is c.self.invariant c.in-Ok.ensures.packets refl refl refl
