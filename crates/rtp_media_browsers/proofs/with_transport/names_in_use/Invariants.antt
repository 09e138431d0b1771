use Rattle.std.proofs.Common.{◌≡◌, ◌++◌, drop}
use Rattle.rtp_media_browsers.specs.ForBrowsers.{names_in_use}
use Rattle.rtp_media_browsers.proofs.with_transport.names_in_use.Given as goal

-- the names so far, and those of the sections that are left
abbrev pub invariant-loop-section : goal.invariant-loop-section
invariant-loop-section l =
    l.names.items ++ names_in_use (drop l.section-index l.sections) ≡ names_in_use l.fn.sections
