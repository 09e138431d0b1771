use Rattle.std.proofs.Common.{◌≡◌, ◌++◌, drop, map}
use Rattle.rtp_media_browsers.specs.Places.{freed}
use Rattle.rtp_media_browsers.proofs.stopping.all_freed.Given as goal

-- the places so far, and those that are left
abbrev pub invariant-loop-place : goal.invariant-loop-place
invariant-loop-place l = l.after ++ map freed (drop l.place-index l.places) ≡ map freed l.fn.places
