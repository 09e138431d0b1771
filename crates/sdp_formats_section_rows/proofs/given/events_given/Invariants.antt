use Rattle.std.proofs.Common.{◌≡◌, drop}
use Rattle.std.specs.Prelude.{fold}
use Rattle.sdp_formats_section_rows.specs.Given.{events_after}
use Rattle.sdp_formats_section_rows.specs.declared.given.Events.TheVariants.{Default}
use Rattle.sdp_formats_section_rows.proofs.given.events_given.Given as goal

-- what was given so far with the attributes that are left
abbrev pub invariant-loop-attribute : goal.invariant-loop-attribute
invariant-loop-attribute l =
    fold (events_after l.pt) l.events (drop l.attribute-index l.attributes)
    ≡ fold (events_after l.pt) Default l.attributes
