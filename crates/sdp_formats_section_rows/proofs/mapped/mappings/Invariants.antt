use Rattle.std.proofs.Common.{◌≡◌, drop}
use Rattle.std.specs.Prelude.{fold}
use Rattle.sdp_formats_section_rows.specs.Mapped.{mappings_in, with_static}
use Rattle.sdp_formats_section_rows.specs.TypeLists.{AreMapped}
use Rattle.sdp_formats_section_rows.proofs.mapped.mappings.Given as goal

-- the mappings so far with the types that are left, and the static types that were met
abbrev pub invariant-loop-pt : goal.invariant-loop-pt
invariant-loop-pt l = record {
  mappings : fold with_static l.mappings.items (drop l.pt-index l.pts)
      ≡ fold with_static (mappings_in l.fn.attributes) l.pts;
  met : AreMapped l.mappings.items l.met.items;
}
