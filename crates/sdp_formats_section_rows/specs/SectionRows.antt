-- The rows of a section.
use Rattle.std.specs.Prelude.{ℕ, Bool, false, ◌&&◌, ◌||◌, ◌==◌, List, [], ◌∷◌, fold, codes, Option, Some, None}
use Rattle.std.specs.Prelude.{if◌then◌else◌}
use Rattle.std.specs.List.{list_any, flat_map}
use Rattle.std.specs.Option.{option_map}
use Rattle.std.specs.Str.{bytes_eq}
use Rattle.media_types.specs.Codecs.{is_audio_codec, is_tele_codec, is_video_codec}
use Rattle.media_types.specs.declared.codec.Codec.{Codec}
use Rattle.media_types.specs.declared.codec.Codec.TheVariants as codec
use Rattle.sdp_formats_values.specs.declared.param.FormatParam.{FormatParam}
use Rattle.sdp_formats_values.specs.declared.param.FormatParam.TheVariants.{Apt, BarePtList, Red}
use Rattle.sdp_formats_rows.specs.Rows.{Row}
use Rattle.sdp_formats_rows.specs.declared.format.FormatParams.{FormatParams}
use Rattle.sdp_formats_data.specs.declared.media.MediaAttribute.{MediaAttribute}
use Rattle.sdp_formats_data.specs.declared.media.MediaAttribute.TheVariants.{Fmtp, RtcpFb}
use Rattle.sdp_formats_section_rows.specs.Given.{format_given}
use Rattle.sdp_formats_section_rows.specs.Maps.{spec_of_map}
use Rattle.sdp_formats_section_rows.specs.Mapped.{is_mapped_to, mappings}
use Rattle.sdp_formats_section_rows.specs.declared.mapped.Mapping.{Mapping}

-- Whether a parameter of an RTX (or RED) type names this payload type (RFC 4588 8.6, RFC 2198 5).
abbrev pub names : Codec → ℕ → FormatParam → Bool
names codec.Rtx pt (Apt named) = named == pt
names codec.Red pt (BarePtList named) = named == pt
names codec.Red pt (Red named) = named == pt
names _ pt _ = false

-- The RTX or RED type of a payload type: the last type mapped to that role that names it.
unfoldable pub linked_after : Codec → List Mapping → ℕ → Option ℕ → MediaAttribute → Option ℕ
linked_after role maps pt found (Fmtp by values) =
    if is_mapped_to role maps by && list_any (names role pt) values then Some by else found
linked_after role maps pt found _ = found

abbrev pub linked : Codec → List MediaAttribute → List Mapping → ℕ → Option ℕ
linked role attrs maps pt = fold (linked_after role maps pt) None attrs

-- Whether a feedback is given for a type (RFC 4585 4.2).
unfoldable pub is_feedback : ℕ → List ℕ → MediaAttribute → Bool
is_feedback pt text (RtcpFb t value) = t == pt && bytes_eq value text
is_feedback pt text _ = false

abbrev pub has_feedback : List MediaAttribute → ℕ → List ℕ → Bool
has_feedback attrs pt text = list_any (is_feedback pt text) attrs

-- The row of a mapped type with its format: transport-wide feedback if given; the other feedback if given, or for any
-- video codec.
abbrev pub row_of : List MediaAttribute → List Mapping → Mapping → FormatParams → Row
row_of attrs maps m format = record {
  pt = m.pt;
  resend = linked codec.Rtx attrs maps m.pt;
  spec = spec_of_map m.map format;
  transport_cc = has_feedback attrs m.pt (codes "transport-cc");
  nack = is_video_codec m.map.codec || has_feedback attrs m.pt (codes "nack");
  pli = is_video_codec m.map.codec || has_feedback attrs m.pt (codes "nack pli");
  fir = is_video_codec m.map.codec || has_feedback attrs m.pt (codes "ccm fir");
  remb = is_video_codec m.map.codec || has_feedback attrs m.pt (codes "goog-remb");
  red = if is_audio_codec m.map.codec then linked codec.Red attrs maps m.pt else None;
  locked = false;
}

-- Audio and video types have rows; telephone events have one only if the section lists the type.
abbrev pub has_row : List ℕ → Mapping → Bool
has_row pts m =
    is_audio_codec m.map.codec || is_video_codec m.map.codec
    || (is_tele_codec m.map.codec && list_any (λ t. t == m.pt) pts)

abbrev pub row_given : List ℕ → List MediaAttribute → List Mapping → Mapping → Option Row
row_given pts attrs maps m =
    if has_row pts m then option_map (row_of attrs maps m) (format_given m.map.codec m.pt attrs) else None

abbrev pub listed : Option Row → List Row
listed None = []
listed (Some row) = row ∷ []

unfoldable pub rows_given : List ℕ → List MediaAttribute → List Mapping → Mapping → List Row
rows_given pts attrs maps m = listed (row_given pts attrs maps m)

-- The rows of a section, given its list of types and its attributes: one for each mapped type, in order, unless it is
-- declined.
abbrev pub rows_of : List ℕ → List MediaAttribute → List Row
rows_of pts attrs = flat_map (rows_given pts attrs (mappings pts attrs)) (mappings pts attrs)
