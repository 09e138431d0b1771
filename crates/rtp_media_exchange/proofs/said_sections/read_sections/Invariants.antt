use Rattle.std.proofs.Common.{◌≡◌, ◌++◌, drop, map}
use Rattle.rtp_media_sections.specs.Lines.{section_of}
use Rattle.rtp_media_exchange.proofs.said_sections.read_sections.Given as goal

-- the sections so far, and those of the rest
abbrev pub invariant-loop-line : goal.invariant-loop-line
invariant-loop-line l =
    l.sections.items ++ map section_of (drop l.line-index l.lines) ≡ map section_of l.lines
