-- A section prints the same when its extensions are replaced by those its URIs name.
use Rattle.std.proofs.Common.{◌≡◌, ℕ, List, [], ◌∷◌, ◌++◌, map, codes, refl, ap, option_map}
use Rattle.std.specs.Fmt.{decimal}
use Rattle.rtp_media_sections.specs.Extensions.{extmap_line}
use Rattle.rtp_media_sections.specs.Lines.{line_of, row_lines, source_lines}
use Rattle.rtp_media_sections.specs.Sections.{Section}
use Rattle.rtp_wire.specs.Kinds.{uri_of}
use Rattle.rtp_wire.specs.declared.extension.Extension.{Extension}
use Rattle.sdp_formats_data.specs.PrintedMedia.{attribute_text, formats_text, port_of, section_text}
use Rattle.sdp_formats_data.specs.Media.{direction_attribute}
use Rattle.sdp_formats_data.specs.declared.media.MediaAttribute.{MediaAttribute}
use Rattle.sdp_formats_data.specs.declared.media.MediaAttribute.TheVariants as line
use Rattle.sdp_formats_data.specs.declared.media.MediaLine.{MediaLine}
use Rattle.sdp_formats_grammar.specs.Joined.{joined, maybe_text, spelled}
use Rattle.sdp_formats_laws.proofs.KnownUris.{uri_own}
use Rattle.sdp_formats_values.specs.Lists.{bandwidth_text}
use Rattle.sdp_formats_values.specs.MediaTypes.{media_type_text, proto_text}
use Rattle.sdp_formats_values.specs.PrintedValues.{line_end}
use Rattle.rtp_media_sections.specs.PrintedSections.{NamesPrintTheSame, named, with_names}

entry_same : (entry : ℕ × Extension) → attribute_text (extmap_line (named entry)) ≡ attribute_text (extmap_line entry)
unfolding attribute_text
entry_same entry =
    ap (λ uri. spelled (codes "a=extmap:" ∷ decimal entry.0 ∷ codes " " ∷ uri ∷ line_end ∷ []))
    (uri_own (uri_of entry.1))

entries_same : (exts : List (ℕ × Extension)) (rest : List MediaAttribute)
    → map attribute_text (map extmap_line (map named exts) ++ rest) ≡ map attribute_text (map extmap_line exts ++ rest)
entries_same [] rest = refl
entries_same (e ∷ exts) rest = (λ i. entry_same e i ∷ entries_same exts rest i)

-- the text of a section with these texts of attributes
abbrev text_with : MediaLine → List (List ℕ) → List ℕ
text_with m texts = spelled (codes "m=" ∷ media_type_text m.typ ∷ codes " " ∷ decimal (port_of m) ∷ codes " "
    ∷ proto_text m.proto ∷ codes " " ∷ formats_text m ∷ line_end ∷ codes "c=IN IP4 0.0.0.0" ∷ line_end
    ∷ maybe_text [] (option_map bandwidth_text m.bw) ∷ joined [] texts ∷ [])

pub names_print_same : NamesPrintTheSame
unfolding section_text formats_text line_of
names_print_same s =
    let rest : List MediaAttribute = row_lines s.rows ++ source_lines s.sources in
    ap (λ texts. text_with (line_of s)
    (attribute_text (line.Mid s.mid) ∷ attribute_text (direction_attribute s.dir) ∷ texts))
    (entries_same s.extmaps rest)

pub sections_print_same : (ss : List Section)
    → map section_text (map line_of (map with_names ss)) ≡ map section_text (map line_of ss)
sections_print_same [] = refl
sections_print_same (s ∷ ss) = (λ i. names_print_same s i ∷ sections_print_same ss i)
