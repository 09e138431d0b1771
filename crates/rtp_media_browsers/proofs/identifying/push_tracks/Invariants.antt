use Rattle.std.proofs.Common.{◌≡◌, ◌++◌, drop}
use Rattle.rtp_media_browsers.specs.Identities.{track_lines}
use Rattle.rtp_media_browsers.proofs.identifying.push_tracks.Given as goal

-- the lines so far, and those of the tracks that are left
abbrev pub invariant-loop-track : goal.invariant-loop-track
invariant-loop-track l =
    l.attributes ++ track_lines (drop l.track-index l.tracks) l.mid
    ≡ l.fn.attributes ++ track_lines l.fn.tracks l.fn.mid
