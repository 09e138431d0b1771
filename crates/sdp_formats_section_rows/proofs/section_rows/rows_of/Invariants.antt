use Rattle.std.proofs.Common.{◌≡◌, ◌++◌, drop}
use Rattle.std.specs.List.{flat_map}
use Rattle.sdp_formats_section_rows.specs.Facts.{row_found}
use Rattle.sdp_formats_section_rows.specs.SectionRows.{listed}
use Rattle.sdp_formats_section_rows.proofs.section_rows.rows_of.Given as goal

-- the rows so far and those of the mappings that are left
abbrev pub invariant-loop-mapping : goal.invariant-loop-mapping
invariant-loop-mapping l =
    l.rows.items ++ flat_map (λ m. listed (row_found l.all.items m)) (drop l.mapping-index l.mappings)
    ≡ flat_map (λ m. listed (row_found l.all.items m)) l.mappings
