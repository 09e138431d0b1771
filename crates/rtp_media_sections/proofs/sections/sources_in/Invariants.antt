use Rattle.std.proofs.Common.{◌≡◌, ◌++◌, drop, map}
use Rattle.rtp_media_sections.specs.Lines.{source_of, sources_in}
use Rattle.rtp_media_sections.proofs.sections.sources_in.Given as goal

-- the sources so far, and those of the rest
abbrev pub invariant-loop-info : goal.invariant-loop-info
invariant-loop-info l =
    l.sources.items ++ map source_of (drop l.info-index l.info-items) ≡ sources_in l.line.attrs
