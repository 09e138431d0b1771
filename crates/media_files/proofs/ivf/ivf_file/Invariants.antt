use Rattle.std.proofs.Common.{◌≡◌, ◌++◌, ◌+◌, ◌*◌, ◌≤◌, map, drop, take}
use Rattle.media_files.specs.Ivf.{AllFit, ivf_file, ivf_frames}
use Rattle.media_files.specs.Units.{timed}
use Rattle.media_files.proofs.ivf.ivf_file.Given as goal

-- what is written, and what the frames left become
abbrev pub invariant-loop-frame : goal.invariant-loop-frame
invariant-loop-frame l = record {
  low : l.previous ≤ 8589934592 + 2147483648 * l.frame-index;
  fits : AllFit l.codec (map timed (take l.frame-index l.frames));
  written : l.out.items ++ ivf_frames l.codec l.first l.previous (map timed (drop l.frame-index l.frames))
      ≡ ivf_file l.codec l.rate (map timed l.frames);
}
