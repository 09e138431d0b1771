use Rattle.std.proofs.Common.{◌≡◌, drop, fold, max}
use Rattle.media_files.proofs.superframe.greatest.Given as goal

-- the greatest of all is that of the sizes left and the greatest so far
abbrev pub invariant-loop-size : goal.invariant-loop-size
invariant-loop-size l = fold max l.greatest (drop l.size-index l.sizes) ≡ fold max 0 l.sizes
