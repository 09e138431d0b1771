use Rattle.std.proofs.Common.{◌<◌, ◌^◌, arith}
use Rattle.rtp_wire.proofs.TimeLaws.{same_clock}
use Rattle.rtp_wire.proofs.media_time.MediaTime.checked_rebase.Goals as goal

pub returns-then-get : goal.returns-then-get
returns-then-get c =
    let some : 0 < c.args.self.rate = grind (arith) in
    let fits : c.args.self.ticks < 2 ^ 64 = grind (arith) in
    let same = same_clock c.args.self some fits in grind (arith)
