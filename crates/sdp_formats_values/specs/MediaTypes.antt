-- Kinds of sections, and how they are carried (RFC 8866 5.14).
use Rattle.std.specs.Prelude.{ℕ, Bool, true, false, List, codes, Option, Some, None}
use Rattle.media_types.specs.declared.codec.MediaKind.{MediaKind}
use Rattle.media_types.specs.declared.codec.MediaKind.TheVariants as kind
use Rattle.sdp_formats_values.specs.declared.media_type.MediaType.{MediaType}
use Rattle.sdp_formats_values.specs.declared.media_type.MediaType.TheVariants.{Audio, Video, Application, Unknown}
use Rattle.sdp_formats_values.specs.declared.media_type.Proto.{Proto}
use Rattle.sdp_formats_values.specs.declared.media_type.Proto.TheVariants.{Srtp, Sctp}

abbrev pub is_media : MediaType → Bool
is_media Audio = true
is_media Video = true
is_media _ = false

-- The kind of media of audio and video.
abbrev pub kind_of_type : MediaType → Option MediaKind
kind_of_type Audio = Some kind.Audio
kind_of_type Video = Some kind.Video
kind_of_type _ = None

abbrev pub is_channel : MediaType → Bool
is_channel Application = true
is_channel _ = false

-- The word of a protocol (RFC 5764 8, RFC 8841 4).
abbrev pub proto_text : Proto → List ℕ
proto_text Srtp = codes "UDP/TLS/RTP/SAVPF"
proto_text Sctp = codes "UDP/DTLS/SCTP"

abbrev pub is_rtp : Proto → Bool
is_rtp Srtp = true
is_rtp Sctp = false

-- The word of a kind.
abbrev pub media_type_text : MediaType → List ℕ
media_type_text Audio = codes "audio"
media_type_text Video = codes "video"
media_type_text Application = codes "application"
media_type_text (Unknown word) = word
