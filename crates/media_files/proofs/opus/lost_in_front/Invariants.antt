use Rattle.std.proofs.Common.{◌≡◌, map, drop}
use Rattle.media_files.specs.Opus.{from_sound, item}
use Rattle.media_files.proofs.opus.lost_in_front.Given as goal

-- no packet so far came whole
abbrev pub invariant-loop-i : goal.invariant-loop-i
invariant-loop-i l = from_sound (map item (drop l.i l.packets)) ≡ from_sound (map item l.packets)
