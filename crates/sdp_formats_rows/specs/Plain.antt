-- Plain rows: those that a section can list and that read back unchanged.
use Rattle.std.specs.Prelude.{ℕ, Bool, true, not, ◌&&◌, ◌||◌, ◌==◌, nat_lt, is_none, is_some, Option, None, Some}
use Rattle.std.specs.Prelude.{if◌then◌else◌}
use Rattle.media_types.specs.Codecs.{is_audio_codec, is_tele_codec, is_video_codec}
use Rattle.media_types.specs.declared.codec.Codec.{Codec}
use Rattle.media_types.specs.declared.codec.Codec.TheVariants.{G722, H265, H266}
use Rattle.sdp_formats_rows.specs.Codecs.{is_codec}
use Rattle.sdp_formats_rows.specs.Formats.{format_of, no_format}
use Rattle.sdp_formats_rows.specs.Rows.{Row}
use Rattle.sdp_formats_rows.specs.Same.{same, same_bool, same_format}
use Rattle.sdp_formats_rows.specs.Texts.{format_text}
use Rattle.sdp_formats_rows.specs.declared.format.FormatParams.{FormatParams}
use Rattle.sdp_formats_rows.specs.declared.spec.CodecSpec.{CodecSpec}

-- A type below 128, if given.
abbrev pub is_type : Option ℕ → Bool
is_type None = true
is_type (Some t) = nat_lt t 128

abbrev pub has_plain_types : Row → Bool
has_plain_types row = is_type (Some row.pt) && is_type row.resend && is_type row.red

-- Audio, video or telephone events; G.722 at 16,000 Hz, with its single channel not given (RFC 3551 4.5.2).
abbrev pub is_media_codec : Codec → Bool
is_media_codec codec = is_audio_codec codec || is_video_codec codec || is_tele_codec codec

abbrev pub is_plain_rate : CodecSpec → Bool
is_plain_rate spec =
    not (is_codec spec.codec G722) || (spec.clock_rate == 16000 && not (same spec.channels (Some 1)))

abbrev pub is_plain_codec : CodecSpec → Bool
is_plain_codec spec = is_media_codec spec.codec && is_plain_rate spec

-- NACK, PLI, FIR and REMB are all on for video, and all off for others; RED is only for audio.
abbrev pub has_plain_feedback : Row → Bool
has_plain_feedback row =
    same_bool row.nack (is_video_codec row.spec.codec) && same_bool row.pli (is_video_codec row.spec.codec)
    && same_bool row.fir (is_video_codec row.spec.codec) && same_bool row.remb (is_video_codec row.spec.codec)

abbrev pub has_plain_red : Row → Bool
has_plain_red row = is_none row.red || is_audio_codec row.spec.codec

-- Telephone events have a maximum and nothing else; others have no maximum.
abbrev pub events_alone : FormatParams → FormatParams
events_alone f = record no_format { telephone_event_max = f.telephone_event_max }

abbrev pub has_plain_events : CodecSpec → Bool
has_plain_events spec =
    if is_tele_codec spec.codec
    then is_some spec.format.telephone_event_max && same_format spec.format (events_alone spec.format)
    else is_none spec.format.telephone_event_max

-- A profile, tier and level is given only for its own codec.
abbrev pub has_plain_level : CodecSpec → Bool
has_plain_level spec =
    (is_none spec.format.h265_profile_tier_level || is_codec spec.codec H265)
    && (is_none spec.format.h266_profile_tier_level || is_codec spec.codec H266)

-- The printed format reads back as itself.
abbrev pub comes_back : FormatParams → Bool
comes_back f = same_format (format_of (format_text f)) f

-- What makes a row plain besides such a format.
abbrev pub has_plain_others : Row → Bool
has_plain_others row =
    has_plain_types row && is_plain_codec row.spec && has_plain_feedback row && has_plain_red row
    && has_plain_events row.spec && has_plain_level row.spec

abbrev pub is_plain : Row → Bool
is_plain row = has_plain_others row && comes_back row.spec.format
