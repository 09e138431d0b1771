-- Codecs and kinds of media, and their names.
use Rattle.std.specs.Prelude.{ℕ, Bool, true, false, ◌||◌, List, [], ◌∷◌, codes, find, unwrap_or, if◌then◌else◌}
use Rattle.std.specs.Str.{str_eq_ignore_ascii_case}
use Rattle.media_types.specs.declared.codec.Codec.{Codec}
use Rattle.media_types.specs.declared.codec.Codec.TheVariants.{Opus, PCMU, PCMA, G722, CN, AmrWb, H264, H265}
use Rattle.media_types.specs.declared.codec.Codec.TheVariants.{H266, Vp8, Vp9, Av1, Tele, Rtx, Red, Null}
use Rattle.media_types.specs.declared.codec.Codec.TheVariants.{Unknown}
use Rattle.media_types.specs.declared.codec.MediaKind.{MediaKind}
use Rattle.media_types.specs.declared.codec.MediaKind.TheVariants.{Audio, Video}

-- The encoding name of a codec in SDP (RFC 8866 6.6).
abbrev pub codec_name : Codec → List ℕ
codec_name Opus = codes "opus"
codec_name PCMU = codes "PCMU"
codec_name PCMA = codes "PCMA"
codec_name G722 = codes "G722"
codec_name CN = codes "CN"
codec_name AmrWb = codes "AMR-WB"
codec_name H264 = codes "H264"
codec_name H265 = codes "H265"
codec_name H266 = codes "H266"
codec_name Vp8 = codes "VP8"
codec_name Vp9 = codes "VP9"
codec_name Av1 = codes "AV1"
codec_name Tele = codes "telephone-event"
codec_name Rtx = codes "rtx"
codec_name Red = codes "red"
codec_name Null = codes "null"
codec_name Unknown = codes "unknown"

abbrev pub codecs : List Codec
codecs = Opus ∷ PCMU ∷ PCMA ∷ G722 ∷ CN ∷ AmrWb ∷ H264 ∷ H265 ∷ H266 ∷ Vp8 ∷ Vp9 ∷ Av1 ∷ Tele ∷ Rtx ∷ Red ∷ Null
    ∷ Unknown ∷ []

-- The text is the codec's name, in any ASCII case; no text names Null or Unknown.
abbrev pub is_named : List ℕ → Codec → Bool
is_named text Null = false
is_named text Unknown = false
is_named text codec = str_eq_ignore_ascii_case (codec_name codec) text

-- The codec whose name the text is, else an unknown one.
unfoldable pub codec_named : List ℕ → Codec
codec_named text = unwrap_or (find (is_named text) codecs) Unknown

-- Which codecs are audio, video and telephone events.
abbrev pub is_audio_codec : Codec → Bool
is_audio_codec Opus = true
is_audio_codec PCMU = true
is_audio_codec PCMA = true
is_audio_codec G722 = true
is_audio_codec CN = true
is_audio_codec AmrWb = true
is_audio_codec _ = false

abbrev pub is_video_codec : Codec → Bool
is_video_codec H264 = true
is_video_codec H265 = true
is_video_codec H266 = true
is_video_codec Vp8 = true
is_video_codec Vp9 = true
is_video_codec Av1 = true
is_video_codec _ = false

abbrev pub is_tele_codec : Codec → Bool
is_tele_codec Tele = true
is_tele_codec _ = false

-- Audio for audio codecs and telephone events, video otherwise.
abbrev pub kind_of_codec : Codec → MediaKind
kind_of_codec codec = if is_audio_codec codec || is_tele_codec codec then Audio else Video

abbrev pub kind_name : MediaKind → List ℕ
kind_name Audio = codes "audio"
kind_name Video = codes "video"

abbrev pub is_audio_kind : MediaKind → Bool
is_audio_kind Audio = true
is_audio_kind Video = false

abbrev pub is_video_kind : MediaKind → Bool
is_video_kind Audio = false
is_video_kind Video = true
