use Rattle.std.proofs.Common.{◌≡◌, ◌++◌, drop, map}
use Rattle.std.specs.Option.{option_copied}
use Rattle.rtp_media_browsers.specs.Places.{stopped_place}
use Rattle.rtp_media_browsers.proofs.stopping.stopped_places.Given as goal

-- the places so far, and those that are left
abbrev pub invariant-loop-place : goal.invariant-loop-place
invariant-loop-place l =
    l.after ++ map (stopped_place (option_copied l.section) l.mid) (drop l.place-index l.places)
    ≡ map (stopped_place (option_copied l.fn.section) l.fn.mid) l.fn.places
