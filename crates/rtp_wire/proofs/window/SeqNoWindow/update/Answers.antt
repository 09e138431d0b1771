use Rattle.rtp_wire.proofs.WindowLaws.{ring-far, ring-near}
use Rattle.std.proofs.Common.{sym}
use Rattle.rtp_wire.proofs.window.SeqNoWindow.update.Goals as goal

pub returns-then-greatest-number : goal.returns-then-greatest-number
returns-then-greatest-number c = rw (← c.self.view_is, ← c.get-number.ensures)
    (ring-near _ _ _ _ _ _ (sym c.max-greatest.ensures) c.pass_over.ensures c.record.ensures c.if-greatest-number.true)

pub returns-else-greatest-number : goal.returns-else-greatest-number
returns-else-greatest-number c = rw (← c.self.view_is, ← c.get-number.ensures)
    (ring-far _ _ _ _ _ (sym c.max-greatest.ensures) c.pass_over.ensures c.if-greatest-number.false)
