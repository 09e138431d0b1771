use Rattle.std.proofs.Common.{◌≡◌, ◌++◌, drop, take}
use Rattle.sdp_formats_section_rows.specs.Facts.{all_after}
use Rattle.sdp_formats_section_rows.proofs.facts.add_to_all.Given as goal

-- those before the index have the line, and the others are as they were
abbrev pub invariant-loop-facts : goal.invariant-loop-facts
invariant-loop-facts l =
    l.all ≡ all_after l.resend_types l.red_types (take l.facts-index l.fn.all) l.attribute
    ++ drop l.facts-index l.fn.all
