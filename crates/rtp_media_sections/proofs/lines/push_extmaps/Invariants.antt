use Rattle.std.proofs.Common.{◌≡◌, ◌++◌, drop, map}
use Rattle.rtp_media_sections.specs.Extensions.{extmap_line}
use Rattle.rtp_media_sections.proofs.lines.push_extmaps.Given as goal

-- the lines so far, and those of the rest
abbrev pub invariant-loop-entry : goal.invariant-loop-entry
invariant-loop-entry l =
    l.attrs.items ++ map extmap_line (drop l.entry-index l.extmaps) ≡ l.fn.attrs.items ++ map extmap_line l.extmaps
