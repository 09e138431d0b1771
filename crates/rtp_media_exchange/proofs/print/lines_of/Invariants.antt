use Rattle.std.proofs.Common.{◌≡◌, ◌++◌, drop, map}
use Rattle.rtp_media_sections.specs.Lines.{line_of}
use Rattle.rtp_media_exchange.proofs.print.lines_of.Given as goal

-- the lines so far, and those of the rest
abbrev pub invariant-loop-section : goal.invariant-loop-section
invariant-loop-section l =
    l.lines.items ++ map line_of (drop l.section-index l.sections) ≡ map line_of l.sections
