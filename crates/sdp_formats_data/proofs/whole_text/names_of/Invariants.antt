use Rattle.std.proofs.Common.{◌≡◌, ◌++◌, drop}
use Rattle.std.specs.List.{filter_map}
use Rattle.sdp_formats_data.specs.WholeTexts.{mid_of}
use Rattle.sdp_formats_data.proofs.whole_text.names_of.Given as goal

-- the names so far and those of the sections that are left
abbrev pub invariant-loop-section : goal.invariant-loop-section
invariant-loop-section l =
    l.names.items ++ filter_map mid_of (drop l.section-index l.sections) ≡ filter_map mid_of l.fn.sections
