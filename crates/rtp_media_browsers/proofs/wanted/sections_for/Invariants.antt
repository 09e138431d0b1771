use Rattle.std.proofs.Common.{◌≡◌, ◌++◌, drop, map}
use Rattle.rtp_media_browsers.specs.Wanted.{wanted_in, wanted_of}
use Rattle.rtp_media_browsers.proofs.wanted.sections_for.Given as goal

-- the sections so far, and those that are left
abbrev pub invariant-loop-section : goal.invariant-loop-section
invariant-loop-section l =
    l.specs.items ++ map (wanted_in l.state l.requests) (drop l.section-index l.sections)
    ≡ wanted_of l.fn.state l.fn.requests
