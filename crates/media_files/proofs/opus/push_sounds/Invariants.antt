use Rattle.std.proofs.Common.{◌≡◌, ◌++◌, ◌+◌, ◌*◌, ◌≤◌, [], map, drop}
use Rattle.media_files.specs.Opus.{sound_pages, item, playing}
use Rattle.media_files.proofs.opus.push_sounds.Given as goal

-- what is written, and the pages of the packets left
abbrev pub invariant-loop-i : goal.invariant-loop-i
invariant-loop-i l = record {
  number : l.sequence ≡ l.i + 2;
  early : l.granule ≤ 5760 * l.i;
  written : l.out.items
      ++ sound_pages l.serial (playing l.previous l.granule l.sequence) (map item (drop l.i l.packets))
      ≡ l.initial.out.items ++ sound_pages l.serial (playing [] 0 2) (map item l.packets);
}
