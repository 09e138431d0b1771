use Rattle.std.proofs.Common.{◌≡◌, ◌++◌, drop}
use Rattle.rtp_media_browsers.specs.Places.{placed_from}
use Rattle.rtp_media_browsers.proofs.placing.placed_from.Given as goal

-- the sections so far, and those of the places that are left
abbrev pub invariant-loop-place : goal.invariant-loop-place
invariant-loop-place l =
    l.all ++ placed_from l.sections (drop l.place-index l.places) l.left
    ≡ placed_from l.fn.sections l.fn.places l.fn.news
