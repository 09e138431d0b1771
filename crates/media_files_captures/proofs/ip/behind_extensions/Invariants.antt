use Rattle.std.proofs.Common.{◌≡◌, ◌-◌}
use Rattle.media_files_captures.specs.Ip.{behind_extensions}
use Rattle.media_files_captures.proofs.ip.behind_extensions.Given as goal

-- this many headers fewer may come, and what follows them is the same
abbrev pub invariant-loop-passed : goal.invariant-loop-passed
invariant-loop-passed l =
    behind_extensions (l.most - l._passed) l.next l.rest ≡ behind_extensions l.most l.fn.next l.fn.bytes
