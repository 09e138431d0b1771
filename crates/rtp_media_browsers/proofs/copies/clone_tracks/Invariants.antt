use Rattle.std.proofs.Common.{◌≡◌, ◌++◌, drop}
use Rattle.rtp_media_browsers.proofs.copies.clone_tracks.Given as goal

-- the copies so far and the tracks that are left
abbrev pub invariant-loop-track : goal.invariant-loop-track
invariant-loop-track l = l.copies.items ++ drop l.track-index l.tracks ≡ l.fn.tracks
