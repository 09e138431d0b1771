use Rattle.std.proofs.Common.{replicate}
use Rattle.rtp_wire.proofs.RingBits.{all-set}
use Rattle.rtp_wire.proofs.WindowLaws.{ring-after}
use Rattle.rtp_wire.proofs.window.SeqNoWindow.new_after.Goals as goal

pub returns : goal.returns
returns c = rw (← c.get.ensures) (ring-after c.get.result (replicate 16 18446744073709551615) all-set)
