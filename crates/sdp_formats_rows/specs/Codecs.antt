-- Codecs with their settings.
use Rattle.std.specs.Prelude.{ℕ, Bool, true, ◌==◌, Option, Some, None, if◌then◌else◌}
use Rattle.media_types.specs.declared.codec.Codec.{Codec}
use Rattle.media_types.specs.declared.codec.Codec.TheVariants.{Opus, PCMU, PCMA, G722, CN, AmrWb, H264, H265}
use Rattle.media_types.specs.declared.codec.Codec.TheVariants.{H266, Vp8, Vp9, Av1, Tele, Rtx, Red, Null}
use Rattle.media_types.specs.declared.codec.Codec.TheVariants.{Unknown}
use Rattle.sdp_formats_rows.specs.declared.spec.CodecSpec.{CodecSpec}
use Rattle.sdp_formats_rows.specs.declared.format.FormatParams.{FormatParams}
use Rattle.sdp_formats_rows.specs.Formats.{no_format}

-- A number for each codec.
abbrev pub codec_number : Codec → ℕ
codec_number Opus = 0
codec_number PCMU = 1
codec_number PCMA = 2
codec_number G722 = 3
codec_number CN = 4
codec_number AmrWb = 5
codec_number H264 = 6
codec_number H265 = 7
codec_number H266 = 8
codec_number Vp8 = 9
codec_number Vp9 = 10
codec_number Av1 = 11
codec_number Tele = 12
codec_number Rtx = 13
codec_number Red = 14
codec_number Null = 15
codec_number Unknown = 16

-- Whether both are one codec.
abbrev pub is_codec : Codec → Codec → Bool
is_codec a b = codec_number a == codec_number b

-- A codec with its settings.
abbrev pub full_spec : Codec → ℕ → Option ℕ → FormatParams → CodecSpec
full_spec codec clock_rate channels format =
    record { codec = codec; clock_rate = clock_rate; channels = channels; format = format }

-- A codec without channels.
abbrev pub spec_of : Codec → ℕ → FormatParams → CodecSpec
spec_of codec clock_rate format = record { codec = codec; clock_rate = clock_rate; channels = None; format = format }

-- Opus at 48,000 Hz and two channels, `minptime=10;useinbandfec=1` (RFC 7587 7).
abbrev pub opus_spec : CodecSpec
opus_spec = record {
  codec = Opus;
  clock_rate = 48000;
  channels = Some 2;
  format = record no_format { min_p_time = Some 10; use_inband_fec = Some true };
}

-- The RTP clock rate: the codec's, but 8,000 for G.722 (RFC 3551 4.5.2).
abbrev pub rtp_clock_rate : CodecSpec → ℕ
rtp_clock_rate spec = if is_codec spec.codec G722 then 8000 else spec.clock_rate

-- The codecs of static payload types (RFC 3551 6).
abbrev pub static_spec : ℕ → Option CodecSpec
static_spec pt =
    if pt == 0 then Some (spec_of PCMU 8000 no_format)
    else if pt == 8 then Some (spec_of PCMA 8000 no_format)
    else if pt == 9 then Some (spec_of G722 16000 no_format)
    else if pt == 13 then Some (spec_of CN 8000 no_format)
    else None
