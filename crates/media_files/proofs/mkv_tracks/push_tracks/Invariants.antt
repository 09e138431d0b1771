use Rattle.std.proofs.Common.{◌≡◌, ◌++◌, ◌+◌, map, drop}
use Rattle.media_files.specs.Mkv.{track_entries}
use Rattle.media_files.specs.MkvViews.{track_shown}
use Rattle.media_files.proofs.mkv_tracks.push_tracks.Given as goal

-- what is written, and what the tracks left become
abbrev pub invariant-loop-track : goal.invariant-loop-track
invariant-loop-track l = record {
  counted : l.number ≡ 1 + l.track-index;
  written : l.out.items ++ track_entries l.number (map track_shown (drop l.track-index l.tracks))
      ≡ l.fn.out.items ++ track_entries 1 (map track_shown l.tracks);
}
