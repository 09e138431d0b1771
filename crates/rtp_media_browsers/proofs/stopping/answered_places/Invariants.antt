use Rattle.std.proofs.Common.{◌≡◌, ◌++◌, drop}
use Rattle.rtp_media_browsers.specs.Places.{answered_places}
use Rattle.rtp_media_browsers.proofs.stopping.answered_places.Given as goal

-- the places so far, and those of the sections that are left
abbrev pub invariant-loop-number : goal.invariant-loop-number
invariant-loop-number l =
    l.after ++ answered_places (drop l.number l.places) (drop l.number l.sections)
    ≡ answered_places l.fn.places l.fn.sections
