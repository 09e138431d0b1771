-- The attributes that list a row.
use Rattle.std.specs.Prelude.{ℕ, Bool, List, [], ◌∷◌, ◌++◌, codes, Option, Some, None, unwrap_or}
use Rattle.std.specs.Prelude.{if◌then◌else◌}
use Rattle.std.specs.List.{flat_map}
use Rattle.media_types.specs.Codecs.{is_tele_codec}
use Rattle.media_types.specs.declared.codec.Codec.TheVariants as codec
use Rattle.sdp_formats_values.specs.declared.param.FormatParam.{FormatParam}
use Rattle.sdp_formats_values.specs.declared.param.FormatParam.TheVariants as param
use Rattle.sdp_formats_rows.specs.Codecs.{rtp_clock_rate}
use Rattle.sdp_formats_rows.specs.Rows.{Row}
use Rattle.sdp_formats_rows.specs.Parameters.{params_of}
use Rattle.sdp_formats_rows.specs.declared.spec.CodecSpec.{CodecSpec}
use Rattle.sdp_formats_data.specs.declared.media.MediaAttribute.{MediaAttribute}
use Rattle.sdp_formats_data.specs.declared.media.MediaAttribute.TheVariants as attribute
use Rattle.sdp_formats_data.specs.declared.media.RtpMap.{RtpMap}
use Rattle.sdp_formats_section_rows.specs.Maps.{map_of}
use Rattle.sdp_formats_section_rows.specs.declared.feedback.Feedback.{Feedback}
use Rattle.sdp_formats_section_rows.specs.declared.feedback.Feedback.TheVariants as feedback

-- Telephone events: only their range, by default up to 16 (RFC 4733 2.4.1 says 15).
abbrev pub params_in : CodecSpec → List FormatParam
params_in spec =
    if is_tele_codec spec.codec then param.TelephoneEvents (unwrap_or spec.format.telephone_event_max 16) ∷ []
    else params_of spec.format

-- A line `a=fmtp`, if there are parameters.
unfoldable pub fmtp_of : ℕ → List FormatParam → List MediaAttribute
fmtp_of pt [] = []
fmtp_of pt (p ∷ ps) = attribute.Fmtp pt (p ∷ ps) ∷ []

-- The feedback of a row, and its words (RFC 4585 4.2, RFC 5104 7.1).
abbrev pub is_used : Row → Feedback → Bool
is_used row feedback.TransportCc = row.transport_cc
is_used row feedback.Remb = row.remb
is_used row feedback.Fir = row.fir
is_used row feedback.Nack = row.nack
is_used row feedback.Pli = row.pli

abbrev pub words_of : Feedback → List ℕ
words_of feedback.TransportCc = codes "transport-cc"
words_of feedback.Remb = codes "goog-remb"
words_of feedback.Fir = codes "ccm fir"
words_of feedback.Nack = codes "nack"
words_of feedback.Pli = codes "nack pli"

abbrev pub all_feedback : List Feedback
all_feedback = feedback.TransportCc ∷ feedback.Remb ∷ feedback.Fir ∷ feedback.Nack ∷ feedback.Pli ∷ []

unfoldable pub feedback_line : Row → Feedback → List MediaAttribute
feedback_line row f = if is_used row f then attribute.RtcpFb row.pt (words_of f) ∷ [] else []

abbrev pub feedback_lines : Row → List MediaAttribute
feedback_lines row = flat_map (feedback_line row) all_feedback

-- The lines of an RTX type, or of a RED type, with the payload type it belongs to (RFC 4588 8.6, RFC 2198 5).
abbrev pub link_lines : ℕ → RtpMap → FormatParam → List MediaAttribute
link_lines pt value p = attribute.RtpMap pt value ∷ attribute.Fmtp pt (p ∷ []) ∷ []

unfoldable pub resend_lines : Row → Option ℕ → List MediaAttribute
resend_lines row None = []
resend_lines row (Some pt) =
    link_lines pt (record { codec = codec.Rtx; clock_rate = rtp_clock_rate row.spec; channels = None })
    (param.Apt row.pt)

unfoldable pub red_lines : Row → Option ℕ → List MediaAttribute
red_lines row None = []
red_lines row (Some pt) =
    link_lines pt (record { codec = codec.Red; clock_rate = rtp_clock_rate row.spec; channels = row.spec.channels })
    (param.Red row.pt)

-- The attributes of a row: its payload type, feedback and format, then its RTX type, then its RED type.
abbrev pub attributes_of : Row → List MediaAttribute
attributes_of row =
    (attribute.RtpMap row.pt (map_of row.spec) ∷ []) ++ feedback_lines row ++ fmtp_of row.pt (params_in row.spec)
    ++ resend_lines row row.resend ++ red_lines row row.red
