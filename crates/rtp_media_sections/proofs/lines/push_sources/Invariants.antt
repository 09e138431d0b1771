use Rattle.std.proofs.Common.{◌≡◌, ◌++◌, drop, map}
use Rattle.rtp_media_sections.specs.Lines.{source_line}
use Rattle.rtp_media_sections.proofs.lines.push_sources.Given as goal

-- the lines so far, and those of the rest
abbrev pub invariant-loop-source : goal.invariant-loop-source
invariant-loop-source l =
    l.attrs.items ++ map source_line (drop l.source-index l.sources) ≡ l.fn.attrs.items ++ map source_line l.sources
