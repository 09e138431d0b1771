use Rattle.std.proofs.Common.{◌≡◌, ◌++◌, drop, map}
use Rattle.rtp_media_sections.specs.Lines.{section_of}
use Rattle.rtp_media_browsers.proofs.in_common.all_read.Given as goal

-- the sections so far, and those of the lines that are left
abbrev pub invariant-loop-line : goal.invariant-loop-line
invariant-loop-line l =
    l.sections.items ++ map section_of (drop l.line-index l.lines) ≡ map section_of l.fn.lines
