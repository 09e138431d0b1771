use Rattle.std.proofs.Common.{◌≡◌, drop}
use Rattle.std.specs.Prelude.{fold}
use Rattle.sdp_formats_section_rows.specs.Facts.{all_after}
use Rattle.sdp_formats_section_rows.proofs.facts.add_lines.Given as goal

-- what is said so far with the attributes that are left
abbrev pub invariant-loop-attribute : goal.invariant-loop-attribute
invariant-loop-attribute l =
    fold (all_after l.resend_types l.red_types) l.all (drop l.attribute-index l.attributes)
    ≡ fold (all_after l.resend_types l.red_types) l.fn.all l.attributes
