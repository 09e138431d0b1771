-- Payload types, their codecs and their feedback.
use Rattle.std.specs.Prelude.{ℕ, ◌^◌, List, Option, nat_le, nat_lt}
use Rattle.media_types.specs.Codecs.{codec_named}
use Rattle.sdp_formats_grammar.specs.Form.{Form, any_text, number, made, cut, cut_maybe, only}
use Rattle.sdp_formats_data.specs.declared.media.RtpMap.{RtpMap as Map}
use Rattle.sdp_formats_data.specs.declared.media.MediaAttribute.{MediaAttribute}
use Rattle.sdp_formats_data.specs.declared.media.MediaAttribute.TheVariants.{RtcpFb, RtpMap}

-- A payload type of 7 bits (RFC 3550 5.1).
abbrev pub payload_type : Form ℕ
payload_type = only (λ n. nat_le n 127) (number (2 ^ 8))

-- A clock rate above 0.
abbrev pub clock_rate : Form ℕ
clock_rate = only (λ n. nat_lt 0 n) (number (2 ^ 32))

-- `TYPE FEEDBACK` (RFC 4585 4.2)
abbrev pub rtcp_fb : Form MediaAttribute
rtcp_fb = made (λ x. RtcpFb x.0 x.1) (cut 32 payload_type any_text)

abbrev pub make_map : List ℕ × (ℕ × Option ℕ) → Map
make_map x = record { codec = codec_named x.0; clock_rate = x.1.0; channels = x.1.1 }

-- `TYPE CODEC/CLOCK[/CHANNELS]` (RFC 8866 6.6)
abbrev pub rtpmap : Form MediaAttribute
rtpmap = made (λ x. RtpMap x.0 (make_map x.1))
    (cut 32 payload_type (cut 47 any_text (cut_maybe 47 clock_rate (number (2 ^ 8)))))
