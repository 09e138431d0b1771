use Rattle.std.proofs.Common.{◌≡◌, ◌++◌, map}
use Rattle.rtp_media_browsers.specs.ForEnds.{end_section}
use Rattle.rtp_media_browsers.proofs.kept_lines.end_sections.Given as goal

-- the sections so far, and those that are left
abbrev pub invariant-loop-section : goal.invariant-loop-section
invariant-loop-section l =
    l.kept ++ map end_section l.section-iterator.rest.items ≡ map end_section l.fn.sections.items
