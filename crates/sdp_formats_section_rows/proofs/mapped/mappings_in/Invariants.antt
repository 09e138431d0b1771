use Rattle.std.proofs.Common.{◌≡◌, ◌++◌, drop}
use Rattle.std.specs.List.{flat_map}
use Rattle.sdp_formats_section_rows.specs.Mapped.{mapping_in}
use Rattle.sdp_formats_section_rows.proofs.mapped.mappings_in.Given as goal

-- the mappings so far and those of the attributes that are left
abbrev pub invariant-loop-attribute : goal.invariant-loop-attribute
invariant-loop-attribute l =
    l.mappings.items ++ flat_map mapping_in (drop l.attribute-index l.attributes)
    ≡ flat_map mapping_in l.attributes
