use Rattle.std.proofs.Common.{◌≡◌, ◌++◌, drop, map, None}
use Rattle.rtp_wire.specs.Run.{receptions}
use Rattle.rtp_wire.proofs.run.receive_run.Given as goal

-- what was answered, and the rest at this window
abbrev pub invariant-loop-datagram : goal.invariant-loop-datagram
invariant-loop-datagram l =
    l.verdicts.items ++ receptions l.exts l.window (map (λ d. d.now) (drop l.datagram-index l.datagrams))
    ≡ receptions l.exts None (map (λ d. d.now) l.datagrams)
