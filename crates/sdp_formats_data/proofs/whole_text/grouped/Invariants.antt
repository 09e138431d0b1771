use Rattle.std.proofs.Common.{◌≡◌, ◌++◌, drop}
use Rattle.std.specs.List.{filter_map}
use Rattle.sdp_formats_data.specs.WholeTexts.{grouped_mid}
use Rattle.sdp_formats_data.proofs.whole_text.grouped.Given as goal

-- the names so far and those of the sections that are left
abbrev pub invariant-loop-section : goal.invariant-loop-section
invariant-loop-section l =
    l.names.items ++ filter_map (grouped_mid l.mids) (drop l.section-index l.sections)
    ≡ filter_map (grouped_mid l.fn.mids) l.fn.sections
