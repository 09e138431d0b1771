-- What is read of a printed section.
use Rattle.std.proofs.Common.{◌≡◌, ℕ, List, [], ◌∷◌, ◌++◌, map, refl, ◌∙◌, ap, append-nil}
use Rattle.std.proofs.Common.{◌&&◌, true}
use Rattle.std.specs.List.{flat_map}
use Rattle.std.specs.Option.{unwrap_or}
use Rattle.std.proofs.lemmas.Bool.{false≢true}
use Rattle.std.proofs.lemmas.Grind.{flat_map-append}
use Rattle.media_types.specs.declared.codec.MediaKind.{MediaKind}
use Rattle.media_types.specs.declared.codec.MediaKind.TheVariants as kinds
use Rattle.rtp_media_sections.specs.Extensions.{extmap_line}
use Rattle.rtp_media_sections.specs.Lines.{is_media_line, kind_of, line_of, pair_line, row_lines, section_of}
use Rattle.rtp_media_sections.specs.Lines.{source_line, source_lines, type_of}
use Rattle.rtp_media_sections.specs.Repairs.{repairs_in}
use Rattle.rtp_media_sections.specs.Sections.{Section}
use Rattle.rtp_media_sections.specs.declared.sections.Source.{Source}
use Rattle.rtp_wire.specs.declared.direction.Direction.{Direction}
use Rattle.rtp_wire.specs.declared.direction.Direction.TheVariants as way
use Rattle.rtp_wire.specs.declared.extension.Extension.{Extension}
use Rattle.sdp_formats_data.specs.Lookups.{direction_in, direction_of, first_of, mid_in}
use Rattle.sdp_formats_data.specs.Media.{direction_attribute}
use Rattle.sdp_formats_values.specs.MediaTypes.{is_media, is_rtp}
use Rattle.sdp_formats_values.specs.declared.media_type.Proto.TheVariants.{Srtp}
use Rattle.sdp_formats_data.specs.declared.media.MediaAttribute.{MediaAttribute}
use Rattle.sdp_formats_data.specs.declared.media.MediaAttribute.TheVariants as line
use Rattle.sdp_formats_data.specs.declared.media.MediaLine.{MediaLine}
use Rattle.sdp_formats_laws.specs.ReadTexts.{section_as_read}
use Rattle.sdp_formats_laws.specs.Rows.{ListsRows, ReadRowsAreRows, ReadSectionsSayTheSame, section_rows}
use Rattle.sdp_formats_laws.specs.RowsBack.{PlainRowsComeBack, names_type, unlocked}
use Rattle.sdp_formats_data.specs.Sections.{extmap_in}
use Rattle.sdp_formats_rows.specs.Rows.{Row}
use Rattle.sdp_formats_section_rows.specs.SectionRows.{rows_of}
use Rattle.rtp_media_sections.proofs.Lists.{no_members}
use Rattle.rtp_media_sections.proofs.PrintedLines.{lists_rows}
use Rattle.rtp_media_sections.proofs.Quiet.{rows_named}
use Rattle.rtp_media_sections.proofs.ReadSources.{lines_with, sources_back}
use Rattle.rtp_media_sections.specs.PrintedSections.{PrintedSectionsComeBack, named, with_names}

-- name, kind, direction
first_name : (mid : List ℕ) (rest : List MediaAttribute)
    → unwrap_or (first_of mid_in (line.Mid mid ∷ rest)) [] ≡ mid
unfolding mid_in
first_name mid rest = refl

kind_back : (kind : MediaKind) → kind_of (type_of kind) ≡ kind
kind_back kinds.Audio = refl
kind_back kinds.Video = refl

media_back : (s : Section) → is_media_line (line_of s) ≡ true
unfolding line_of
media_back s = at s.kind
  where
    at : (kind : MediaKind) → (is_media (type_of kind) && (is_rtp Srtp && true)) ≡ true
    at kinds.Audio = refl
    at kinds.Video = refl

first_direction : (mid : List ℕ) (d : Direction) (rest : List MediaAttribute)
    → direction_of (line.Mid mid ∷ direction_attribute d ∷ rest) ≡ d
unfolding direction_in
first_direction mid way.SendOnly rest = refl
first_direction mid way.RecvOnly rest = refl
first_direction mid way.SendRecv rest = refl
first_direction mid way.Inactive rest = refl

-- header extensions
type_lists_none : (a : MediaAttribute) → names_type a ≡ true → extmap_in a ≡ []
unfolding extmap_in
type_lists_none (line.RtpMap pt value) e = refl
type_lists_none (line.RtcpFb pt value) e = refl
type_lists_none (line.Fmtp pt values) e = refl
type_lists_none _ e = absurd (false≢true e)

sources_list_none : (sources : List Source) → flat_map extmap_in (map source_line sources) ≡ []
unfolding extmap_in
sources_list_none [] = refl
sources_list_none (s ∷ sources) = sources_list_none sources

pairs_list_none : (pairs : List (ℕ × ℕ)) → flat_map extmap_in (map pair_line pairs) ≡ []
unfolding extmap_in
pairs_list_none [] = refl
pairs_list_none (p ∷ pairs) = pairs_list_none pairs

behind_lists_none : (sources : List Source) → flat_map extmap_in (source_lines sources) ≡ []
behind_lists_none sources =
    flat_map-append extmap_in (map pair_line (repairs_in sources)) (map source_line sources)
    ∙ (λ i. pairs_list_none (repairs_in sources) i ++ sources_list_none sources i)

entries_back : (exts : List (ℕ × Extension)) → flat_map extmap_in (map extmap_line exts) ≡ exts
unfolding extmap_in
entries_back [] = refl
entries_back (e ∷ exts) = ap (λ l. e ∷ l) (entries_back exts)

extmaps_front : (mid : List ℕ) (d : Direction) (rest : List MediaAttribute)
    → flat_map extmap_in (line.Mid mid ∷ direction_attribute d ∷ rest) ≡ flat_map extmap_in rest
unfolding extmap_in
extmaps_front mid way.SendOnly rest = refl
extmaps_front mid way.RecvOnly rest = refl
extmaps_front mid way.SendRecv rest = refl
extmaps_front mid way.Inactive rest = refl

extmaps_back : (mid : List ℕ) (d : Direction) (exts : List (ℕ × Extension)) (rows : List Row) (sources : List Source)
    → flat_map extmap_in (lines_with mid d exts rows sources) ≡ exts
extmaps_back mid d exts rows sources =
    extmaps_front mid d _
    ∙ flat_map-append extmap_in (map extmap_line exts) (row_lines rows ++ source_lines sources)
    ∙ (λ i. entries_back exts i ++ flat_map-append extmap_in (row_lines rows) (source_lines sources) i)
    ∙ (λ i. exts ++ (no_members extmap_in names_type type_lists_none (row_lines rows) (rows_named rows) i
    ++ behind_lists_none sources i))
    ∙ append-nil exts

-- rows
rows_back : PlainRowsComeBack → ReadRowsAreRows → (m : MediaLine) (rows : List Row) → ListsRows m rows
    → section_rows (section_as_read m) ≡ map unlocked rows
rows_back back read m rows h =
    read m
    ∙ (λ i. rows_of (h.types i) (h.attributes i))
    ∙ back rows h.others h.behind h.plain h.distinct h.others_silent h.behind_silent

pub come_back : PlainRowsComeBack → ReadRowsAreRows → ReadSectionsSayTheSame → PrintedSectionsComeBack
unfolding section_of line_of
come_back back read same s h =
    let m : MediaLine = line_of (with_names s) in
    let says = same m in
    let exts : List (ℕ × Extension) = map named s.extmaps in
    let more : List MediaAttribute = map extmap_line exts ++ (row_lines s.rows ++ source_lines s.sources) in
    (λ i. record {
      mid = (ap (λ o. unwrap_or o []) says.1 ∙ first_name s.mid (direction_attribute s.dir ∷ more)) i;
      kind = kind_back s.kind i;
      is_media = media_back (with_names s) i;
      dir = (says.2 ∙ first_direction s.mid s.dir more) i;
      rows = rows_back back read m s.rows (lists_rows s h) i;
      extmaps = (says.5 ∙ extmaps_back s.mid s.dir exts s.rows s.sources) i;
      sources = sources_back s.mid s.dir exts s.rows s.sources i;
    })
