use Rattle.std.proofs.Common.{◌≡◌, ◌-◌}
use Rattle.media_files_captures.specs.Fragments.{fragment_behind}
use Rattle.media_files_captures.specs.Network.{extended}
use Rattle.media_files_captures.proofs.fragments.fragment_behind.Given as goal

-- so many tunnels fewer may come, and the fragment is the same
abbrev pub invariant-loop-passed : goal.invariant-loop-passed
invariant-loop-passed l =
    fragment_behind (l.most - l._passed) (extended l.kind l.rest)
    ≡ fragment_behind l.most (extended l.fn.kind l.fn.packet)
