use Rattle.std.proofs.Common.{◌≡◌, ◌-◌}
use Rattle.media_files_captures.specs.Frames.{datagram_behind}
use Rattle.media_files_captures.specs.Network.{extended}
use Rattle.media_files_captures.proofs.frames.datagram_behind.Given as goal

-- so many tunnels fewer may come, and the datagram is the same
abbrev pub invariant-loop-passed : goal.invariant-loop-passed
invariant-loop-passed l =
    datagram_behind (l.most - l._passed) (extended l.protocol l.rest)
    ≡ datagram_behind l.most (extended l.fn.protocol l.fn.bytes)
