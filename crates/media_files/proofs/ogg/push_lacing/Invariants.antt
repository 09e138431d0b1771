use Rattle.std.proofs.Common.{◌≡◌, ◌++◌, replicate}
use Rattle.media_files.proofs.ogg.push_lacing.Given as goal

-- so many full segments
abbrev pub invariant-loop-full : goal.invariant-loop-full
invariant-loop-full l = l.out.items ≡ l.initial.out.items ++ replicate l._full 255
