use Rattle.std.proofs.Common.{◌≡◌, ◌++◌, drop}
use Rattle.std.specs.List.{flat_map}
use Rattle.media_files.specs.Superframe.{size_bytes}
use Rattle.media_files.proofs.superframe.push_sizes.Given as goal

-- what is written, and what is left
abbrev pub invariant-loop-size : goal.invariant-loop-size
invariant-loop-size l = l.out.items ++ flat_map (size_bytes l.width) (drop l.size-index l.sizes)
    ≡ l.fn.out.items ++ flat_map (size_bytes l.width) l.sizes
