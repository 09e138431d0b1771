use Rattle.std.proofs.Common.{◌≡◌, ◌∙◌, ap, arith, map, List}
use Rattle.std.specs.List.{flat_map}
use Rattle.std.proofs.lemmas.Grind.{common_steps}
use Rattle.media_types.specs.declared.codec.Codec.TheVariants.{Red, Rtx}
use Rattle.sdp_formats_section_rows.specs.Facts.{facts_of, row_found}
use Rattle.sdp_formats_section_rows.specs.SectionRows.{listed}
use Rattle.sdp_formats_section_rows.specs.TypeLists.{media_types_in, types_to}
use Rattle.sdp_formats_section_rows.specs.declared.facts.TypeFacts.{TypeFacts}
use Rattle.sdp_formats_section_rows.proofs.RowsByType.{rows_same}
use Rattle.sdp_formats_section_rows.proofs.section_rows.rows_of.Goals as goal

pub returns : goal.returns
returns c =
    let pts = c.args.section.now.pts in
    let attrs = c.args.section.now.attrs in
    let maps = c.args.mappings.now in
    let said : c.in_ok-all.all.items ≡ map (facts_of pts attrs (types_to Rtx maps) (types_to Red maps))
    (media_types_in maps)
    = grind (arith, common_steps) in
    let walked : c.loop-mapping.rows.items ≡ flat_map (λ m. listed (row_found c.in_ok-all.all.items m)) maps
    = grind (arith, common_steps) in
    walked ∙ ap (λ (all : List TypeFacts). flat_map (λ m. listed (row_found all m)) maps) said
    ∙ rows_same pts attrs maps
