-- The default rows of each codec: their types, clock rates, channels and formats.
use Rattle.std.specs.Prelude.{ℕ, Bool, true, false, Option, Some, None, List, [], ◌∷◌, ◌++◌, if◌then◌else◌}
use Rattle.media_types.specs.declared.codec.Codec.{Codec}
use Rattle.media_types.specs.declared.codec.Codec.TheVariants.{PCMU, PCMA, G722, CN, AmrWb, H264, Vp8, Vp9, Av1}
use Rattle.media_types.specs.declared.codec.Codec.TheVariants.{H265, H266}
use Rattle.media_types.specs.H265ProfileTierLevel.{known_or_fallback as known_265}
use Rattle.media_types.specs.H266ProfileTierLevel.{known_or_fallback as known_266}
use Rattle.sdp_formats_rows.specs.Codecs.{spec_of, opus_spec}
use Rattle.sdp_formats_rows.specs.declared.format.FormatParams.{FormatParams}
use Rattle.sdp_formats_rows.specs.Formats.{no_format}
use Rattle.sdp_formats_rows.specs.Rows.{Row, new_row}

-- The row with a RED type, if one is wanted (RFC 2198).
abbrev pub with_red_if : Bool → ℕ → Row → Row
with_red_if use_red red row = record row { red = if use_red then Some red else None }

-- G.711 and comfort noise at 8,000 Hz, G.722 at 16,000 Hz, under their static types (RFC 3551 6, RFC 3389 4).
abbrev pub pcmu_row : Bool → Row
pcmu_row use_red = with_red_if use_red 61 (new_row 0 None (spec_of PCMU 8000 no_format))

abbrev pub pcma_row : Bool → Row
pcma_row use_red = with_red_if use_red 60 (new_row 8 None (spec_of PCMA 8000 no_format))

abbrev pub g722_row : Bool → Row
g722_row use_red = with_red_if use_red 62 (new_row 9 None (spec_of G722 16000 no_format))

abbrev pub comfort_noise_row : Row
comfort_noise_row = new_row 13 None (spec_of CN 8000 no_format)

-- AMR-WB at 16,000 Hz and one channel, octet-aligned (RFC 4867 8.2).
abbrev pub amr_wb_row : Row
amr_wb_row = new_row 122 None (record (spec_of AmrWb 16000 (record no_format { octet_align = Some true }))
    { channels = Some 1 })

-- Video at 90,000 Hz, with a payload type and an RTX type.
abbrev pub video_row : Codec → ℕ → ℕ → FormatParams → Row
video_row codec pt resend format = new_row pt (Some resend) (spec_of codec 90000 format)

abbrev pub vp8_row : Row
vp8_row = video_row Vp8 96 97 no_format

abbrev pub vp9_row : ℕ → ℕ → ℕ → Row
vp9_row pt resend profile = video_row Vp9 pt resend (record no_format { profile_id = Some profile })

abbrev pub vp9_rows : List Row
vp9_rows = vp9_row 98 99 0 ∷ vp9_row 100 101 2 ∷ []

abbrev pub av1_row : Row
av1_row = video_row Av1 45 46 no_format

-- H.264 in packetization mode 1 or 0, with level asymmetry (RFC 6184 8.1).
abbrev pub h264_format : Bool → ℕ → FormatParams
h264_format mode profile_level_id = record no_format {
  level_asymmetry_allowed = Some true;
  packetization_mode = Some (if mode then 1 else 0);
  profile_level_id = Some profile_level_id;
}

abbrev pub h264_rows : List Row
h264_rows =
    video_row H264 127 121 (h264_format true 0x42001f)
    ∷ video_row H264 125 107 (h264_format false 0x42001f)
    ∷ video_row H264 108 109 (h264_format true 0x42e01f)
    ∷ video_row H264 124 120 (h264_format false 0x42e01f)
    ∷ video_row H264 123 119 (h264_format true 0x4d001f)
    ∷ video_row H264 35 36 (h264_format false 0x4d001f)
    ∷ video_row H264 114 115 (h264_format true 0x64001f)
    ∷ []

-- H.265 and H.266 with a profile, tier and level given by numbers (RFC 7798 7.1, RFC 9328 7.2); the default, if one
-- isn't in its table.
abbrev pub h265_row : ℕ → Option ℕ → ℕ × ℕ × ℕ → Row
h265_row pt resend numbers = new_row pt resend
    (spec_of H265 90000 (record no_format { h265_profile_tier_level = Some (known_265 numbers) }))

abbrev pub h266_row : ℕ → Option ℕ → ℕ × ℕ × ℕ → Row
h266_row pt resend numbers = new_row pt resend
    (spec_of H266 90000 (record no_format { h266_profile_tier_level = Some (known_266 numbers) }))

-- Main profile, main tier, level 6 of H.265; main 10 profile, main tier, level 6 of H.266.
abbrev pub h265_default : Row
h265_default = h265_row 102 (Some 103) (1, 0, 180)

abbrev pub h266_default : Row
h266_default = h266_row 104 (Some 105) (1, 0, 96)

-- The row of Opus: type 111, RED type 63 or none.
abbrev pub opus_row : Bool → Row
opus_row use_red = record (new_row 111 None opus_spec) { red = if use_red then Some 63 else None }

-- The rows of a config with all defaults: Opus without redundancy, VP8, H.264, H.265, VP9, AV1.
abbrev pub default_rows : List Row
default_rows = (opus_row false ∷ vp8_row ∷ []) ++ h264_rows ++ (h265_default ∷ []) ++ vp9_rows ++ (av1_row ∷ [])
