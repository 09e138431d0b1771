use Rattle.std.proofs.Common.{◌≡◌, ◌++◌}
use Rattle.rtp_media_runs.proofs.pushing.append.Given as goal

abbrev pub invariant-loop-datagram : goal.invariant-loop-datagram
invariant-loop-datagram l = l.datagrams.items ≡ l.initial.datagrams.items ++ l.yielded
