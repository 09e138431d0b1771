use Rattle.std.proofs.Common.{replicate}
use Rattle.rtp_wire.proofs.RingBits.{none-set}
use Rattle.rtp_wire.proofs.WindowLaws.{ring-new}
use Rattle.rtp_wire.proofs.window.SeqNoWindow.new.Goals as goal

pub returns : goal.returns
returns c = ring-new c.get-number.result _ (replicate 16 0) c.record.new.slots c.get-number.ensures none-set
    c.record.ensures
