use Rattle.std.proofs.Common.{◌≡◌, ◌++◌, map}
use Rattle.rtp_media_browsers.specs.ForBrowsers.{told_section}
use Rattle.rtp_media_browsers.proofs.with_transport.told_sections.Given as goal

-- the sections so far, and those that are left
abbrev pub invariant-loop-section : goal.invariant-loop-section
invariant-loop-section l =
    l.told.items ++ map (told_section l.state l.transport) l.section-iterator.rest.items
    ≡ map (told_section l.fn.state l.fn.transport) l.fn.sections.items
