use Rattle.std.proofs.Common.{◌≡◌, ◌++◌, drop}
use Rattle.rtp_media_browsers.specs.Places.{left}
use Rattle.rtp_media_browsers.proofs.placing.left.Given as goal

-- the sections so far, and those of the places that are left
abbrev pub invariant-loop-number : goal.invariant-loop-number
invariant-loop-number l =
    l.kept.items ++ left (drop l.number l.places) (drop l.number l.sections) ≡ left l.fn.places l.fn.sections
