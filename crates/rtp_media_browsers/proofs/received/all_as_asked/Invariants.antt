use Rattle.std.proofs.Common.{◌≡◌, ◌++◌, drop}
use Rattle.rtp_media_browsers.specs.Received.{all_as_asked}
use Rattle.rtp_media_browsers.proofs.received.all_as_asked.Given as goal

-- the sections so far, and those that are left
abbrev pub invariant-loop-number : goal.invariant-loop-number
invariant-loop-number l =
    l.all.items ++ all_as_asked l.requests l.number (drop l.number l.sections)
    ≡ all_as_asked l.fn.requests 0 l.fn.sections
