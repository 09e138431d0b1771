use Rattle.std.proofs.Common.{◌≡◌, ◌++◌, drop}
use Rattle.rtp_media_browsers.specs.Asking.{given, left_over}
use Rattle.rtp_media_browsers.proofs.asking.given.Given as goal

-- the requests so far and those of the sections that are left; what is left over in the end
abbrev pub invariant-loop-section : goal.invariant-loop-section
invariant-loop-section l =
    (l.requests.items ++ given l.bundle l.asked.items (drop l.section-index l.sections)
    ≡ given l.fn.bundle l.fn.asked.items l.fn.sections)
    × (left_over l.bundle l.asked.items (drop l.section-index l.sections)
    ≡ left_over l.fn.bundle l.fn.asked.items l.fn.sections)
