use Rattle.std.proofs.Common.{◌≡◌, ◌-◌, length}
use Rattle.media_files_captures.specs.Fragments.{whole, whole_after}
use Rattle.media_files_captures.proofs.fragments.whole.Given as goal

-- after the bytes so far, so many fragments fewer make the same
abbrev pub invariant-loop-taken : goal.invariant-loop-taken
invariant-loop-taken l =
    whole_after (length l.held - l._taken) l.fragment l.held l.out.items ≡ whole l.fragment l.held
