use Rattle.std.proofs.Common.{◌≡◌, drop}
use Rattle.rtp_media_browsers.specs.Refusals.{are_at}
use Rattle.rtp_media_browsers.proofs.refusals.are_at.Given as goal

-- the places so far are the same: the rest decides
abbrev pub invariant-loop-number : goal.invariant-loop-number
invariant-loop-number l =
    are_at (drop l.number l.places) (drop l.number l.sections) ≡ are_at l.fn.places l.fn.sections
