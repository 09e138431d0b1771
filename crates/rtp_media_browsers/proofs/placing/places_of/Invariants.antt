use Rattle.std.proofs.Common.{◌≡◌, ◌++◌, drop}
use Rattle.rtp_media_browsers.specs.Places.{places_from}
use Rattle.rtp_media_browsers.proofs.placing.places_of.Given as goal

-- the places so far, and those of the sections that are left
abbrev pub invariant-loop-number : goal.invariant-loop-number
invariant-loop-number l =
    l.places ++ places_from l.fn.bundle l.requests l.number (drop l.number l.sections)
    ≡ places_from l.fn.bundle l.fn.requests 0 l.fn.sections
