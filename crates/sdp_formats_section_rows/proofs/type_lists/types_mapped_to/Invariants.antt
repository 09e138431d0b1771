use Rattle.std.proofs.Common.{◌≡◌, drop}
use Rattle.std.specs.Prelude.{fold}
use Rattle.sdp_formats_rows.specs.Codecs.{is_codec}
use Rattle.sdp_formats_section_rows.specs.TypeLists.{types_to, with_type}
use Rattle.sdp_formats_section_rows.proofs.type_lists.types_mapped_to.Given as goal

-- the types so far with the mappings that are left
abbrev pub invariant-loop-mapping : goal.invariant-loop-mapping
invariant-loop-mapping l =
    fold (with_type (λ m. is_codec m.map.codec l.codec)) l.types.items (drop l.mapping-index l.mappings)
    ≡ types_to l.codec l.mappings
