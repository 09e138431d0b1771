use Rattle.std.proofs.Common.{◌≡◌, drop}
use Rattle.std.specs.Prelude.{fold}
use Rattle.sdp_formats_rows.specs.Plain.{is_media_codec}
use Rattle.sdp_formats_section_rows.specs.TypeLists.{media_types_in, with_type}
use Rattle.sdp_formats_section_rows.proofs.type_lists.media_types_in.Given as goal

-- the types so far with the mappings that are left
abbrev pub invariant-loop-mapping : goal.invariant-loop-mapping
invariant-loop-mapping l =
    fold (with_type (λ m. is_media_codec m.map.codec)) l.types.items (drop l.mapping-index l.mappings)
    ≡ media_types_in l.mappings
