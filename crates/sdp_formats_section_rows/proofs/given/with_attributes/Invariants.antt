use Rattle.std.proofs.Common.{◌≡◌, drop}
use Rattle.std.specs.Prelude.{fold}
use Rattle.sdp_formats_section_rows.specs.Given.{with_attribute}
use Rattle.sdp_formats_section_rows.proofs.given.with_attributes.Given as goal

-- the format so far with the attributes that are left
abbrev pub invariant-loop-attribute : goal.invariant-loop-attribute
invariant-loop-attribute l =
    fold (with_attribute l.pt) l.format (drop l.attribute-index l.attributes)
    ≡ fold (with_attribute l.pt) l.fn.format l.attributes
