-- What `a=rtpmap` says of a codec, and the codec that it means (RFC 8866 6.6).
use Rattle.std.specs.Prelude.{ℕ, ◌==◌, Option, Some, None, if◌then◌else◌}
use Rattle.media_types.specs.declared.codec.Codec.TheVariants.{G722}
use Rattle.sdp_formats_rows.specs.Codecs.{is_codec, rtp_clock_rate}
use Rattle.sdp_formats_rows.specs.declared.format.FormatParams.{FormatParams}
use Rattle.sdp_formats_rows.specs.declared.spec.CodecSpec.{CodecSpec}
use Rattle.sdp_formats_data.specs.declared.media.RtpMap.{RtpMap}

-- What `a=rtpmap` says of a codec: the clock rate of its timestamps.
abbrev pub map_of : CodecSpec → RtpMap
map_of spec = record { codec = spec.codec; clock_rate = rtp_clock_rate spec; channels = spec.channels }

-- The codec that it means: G.722 at 16,000 Hz, its one channel not given (RFC 3551 4.5.2).
abbrev pub unless_one : Option ℕ → Option ℕ
unless_one None = None
unless_one (Some n) = if n == 1 then None else Some n

abbrev pub spec_of_map : RtpMap → FormatParams → CodecSpec
spec_of_map m format =
    if is_codec m.codec G722
    then record { codec = m.codec; clock_rate = 16000; channels = unless_one m.channels; format = format }
    else record { codec = m.codec; clock_rate = m.clock_rate; channels = m.channels; format = format }
