use Rattle.rtp_wire.proofs.WindowLaws.{accepts-ring}
use Rattle.rtp_wire.proofs.window.SeqNoWindow.accepts.Goals as goal

pub returns-then-self-number : goal.returns-then-self-number
returns-then-self-number c = rw (← c.self.view_is, ← c.get-number.ensures, c.is_recorded.ensures)
    (accepts-ring _ _ _ c.if-number-self.false c.if-self-number.true)
