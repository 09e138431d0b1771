-- The sections of offers and answers as lines, and what lines say (RFC 8829 5.2.1 and 5.3.1).
use Rattle.std.specs.Prelude.{ℕ, Bool, false, not, ◌&&◌, List, [], ◌∷◌, ◌++◌, filter, map, codes, None}
use Rattle.std.specs.List.{flat_map}
use Rattle.std.specs.Option.{is_none, unwrap_or}
use Rattle.media_types.specs.declared.codec.MediaKind as kind
use Rattle.media_types.specs.declared.codec.MediaKind.TheVariants as kinds
use Rattle.rtp_wire.specs.Direction.{receives}
use Rattle.sdp_formats_rounds.specs.Laws as round
use Rattle.sdp_formats_rounds.specs.Types.{types_of}
use Rattle.sdp_formats_rows.specs.Rows.{Row}
use Rattle.sdp_formats_section_rows.specs.Attributes.{attributes_of}
use Rattle.sdp_formats_section_rows.specs.SectionRows.{rows_of}
use Rattle.sdp_formats_data.specs.Sections.{extmap_in}
use Rattle.sdp_formats_data.specs.Sources.{infos_of}
use Rattle.sdp_formats_values.specs.declared.streams.SsrcInfo.{SsrcInfo}
use Rattle.sdp_formats_values.specs.MediaTypes.{is_media, is_rtp}
use Rattle.sdp_formats_data.specs.Lookups.{direction_of, first_of, mid_in}
use Rattle.sdp_formats_data.specs.Media.{direction_attribute}
use Rattle.sdp_formats_data.specs.declared.media.MediaAttribute.{MediaAttribute}
use Rattle.sdp_formats_data.specs.declared.media.MediaAttribute.TheVariants as line
use Rattle.sdp_formats_data.specs.declared.media.MediaLine.{MediaLine}
use Rattle.sdp_formats_values.specs.declared.media_type.MediaType as typ
use Rattle.sdp_formats_values.specs.declared.media_type.MediaType.TheVariants.{Audio, Video}
use Rattle.sdp_formats_values.specs.declared.media_type.Proto.TheVariants.{Srtp}
use Rattle.rtp_media_sections.specs.Extensions.{extmap_line}
use Rattle.rtp_media_sections.specs.Repairs.{repairs_in}
use Rattle.rtp_media_sections.specs.Sections.{Section}
use Rattle.rtp_media_sections.specs.declared.sections.Source.{Source}

abbrev pub type_of : kind.MediaKind → typ.MediaType
type_of kinds.Audio = Audio
type_of kinds.Video = Video

-- The payload types of rows: each row's own, its RTX type, and its RED type.
abbrev pub types_listed : List Row → List ℕ
types_listed rows = flat_map types_of rows

-- The lines of rows.
abbrev pub row_lines : List Row → List MediaAttribute
row_lines rows = flat_map attributes_of rows

-- A source with its CNAME (RFC 5576 6.1).
abbrev pub source_line : Source → MediaAttribute
source_line source = line.Ssrc source.ssrc (codes "cname") (codes "str0m")

-- An SSRC and its RTX SSRC as a FID group (RFC 4588 8.3).
abbrev pub pair_line : ℕ × ℕ → MediaAttribute
pair_line pair = line.SsrcGroup (codes "FID") (pair.0 ∷ pair.1 ∷ [])

-- The lines of sources: a FID group for each RTX source, then a line for each source.
abbrev pub source_lines : List Source → List MediaAttribute
source_lines sources = map pair_line (repairs_in sources) ++ map source_line sources

-- The lines of a section of media: name, direction, extensions, rows and sources.
abbrev pub section_lines : Section → List MediaAttribute
section_lines s = line.Mid s.mid ∷ direction_attribute s.dir
    ∷ (map extmap_line s.extmaps ++ (row_lines s.rows ++ source_lines s.sources))

-- A section of media as it is written.
unfoldable pub line_of : Section → MediaLine
line_of s = record {
  typ = type_of s.kind;
  disabled = false;
  proto = Srtp;
  pts = types_listed s.rows;
  bw = None;
  attrs = section_lines s;
}

-- The name of a section that is read; each has one.
abbrev pub mid_of : MediaLine → List ℕ
mid_of m = unwrap_or (first_of mid_in m.attrs) []

-- The kind of a section of media.
abbrev pub kind_of : typ.MediaType → kind.MediaKind
kind_of Video = kinds.Video
kind_of _ = kinds.Audio

-- Whether a section is audio or video over RTP and isn't rejected (port 0; RFC 3264 6).
abbrev pub is_media_line : MediaLine → Bool
is_media_line m = is_media m.typ && (is_rtp m.proto && not m.disabled)

abbrev pub source_of : SsrcInfo → Source
source_of info = record { ssrc = info.ssrc; repairs = info.repairs }

-- The sources named by `a=ssrc` lines and FID groups, each with the SSRC it repairs, if any (RFC 5576).
abbrev pub sources_in : List MediaAttribute → List Source
sources_in attrs = map source_of (infos_of attrs)

-- What the lines of a section say.
unfoldable pub section_of : MediaLine → Section
section_of m = record {
  mid = mid_of m;
  kind = kind_of m.typ;
  is_media = is_media_line m;
  dir = direction_of m.attrs;
  rows = rows_of m.pts m.attrs;
  extmaps = flat_map extmap_in m.attrs;
  sources = sources_in m.attrs;
}

-- What a codec negotiation round takes from a section.
abbrev pub remote_of : Section → round.Section
remote_of s = record { rows = s.rows; dictated = receives s.dir }

-- The SSRCs it names, except those of RTX sources.
abbrev pub ssrcs_of : Section → List ℕ
ssrcs_of s = map (λ source. source.ssrc) (filter (λ source. is_none source.repairs) s.sources)

-- Its (SSRC, RTX SSRC) pairs, in the order of its sources.
abbrev pub repairs_of : Section → List (ℕ × ℕ)
repairs_of s = repairs_in s.sources
