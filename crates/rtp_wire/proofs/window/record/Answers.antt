use Rattle.std.proofs.Common.{arith}
use Rattle.rtp_wire.proofs.RingBits.{set-slot}
use Rattle.rtp_wire.proofs.window.record.Goals as goal

pub returns : goal.returns
returns c = λ slot h. rw (← c.slot_of-slot.ensures)
    (set-slot c.args.slots.now c.slot_of-slot.result slot (search) (omega arith))
