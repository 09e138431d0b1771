use Rattle.std.proofs.Common.{◌≡◌, ◌+◌, ◌*◌, ◌≤◌, map, drop, fold}
use Rattle.media_files.specs.Ivf.{time_after}
use Rattle.media_files.specs.Units.{timed}
use Rattle.media_files.proofs.ivf.last_time.Given as goal

-- the last time is that of the frames left, from the time so far on
abbrev pub invariant-loop-frame : goal.invariant-loop-frame
invariant-loop-frame l = record {
  low : l.previous ≤ 8589934592 + 2147483648 * l.frame-index;
  last : fold time_after l.previous (map timed (drop l.frame-index l.frames))
      ≡ fold time_after l.first (map timed l.frames);
}
