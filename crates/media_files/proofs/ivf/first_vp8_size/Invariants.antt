use Rattle.std.proofs.Common.{◌≡◌, map, drop}
use Rattle.media_files.specs.Ivf.{first_vp8_size}
use Rattle.media_files.specs.Units.{timed}
use Rattle.media_files.proofs.ivf.first_vp8_size.Given as goal

-- no frame so far had a size
abbrev pub invariant-loop-frame : goal.invariant-loop-frame
invariant-loop-frame l = first_vp8_size (map timed (drop l.frame-index l.frames)) ≡ first_vp8_size (map timed l.frames)
