use Rattle.std.proofs.Common.{◌≡◌, ◌++◌, drop}
use Rattle.std.specs.List.{flat_map}
use Rattle.sdp_formats_data.specs.Sections.{extmap_in}
use Rattle.rtp_media_sections.proofs.sections.extmaps_in.Given as goal

-- those so far, and those of the rest
abbrev pub invariant-loop-line : goal.invariant-loop-line
invariant-loop-line l =
    l.extmaps.items ++ flat_map extmap_in (drop l.line-index l.lines) ≡ flat_map extmap_in l.lines
