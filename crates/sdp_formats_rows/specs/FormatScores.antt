-- How well two formats of one codec match: not at all, or by 1 to 100 points.
use Rattle.std.specs.Prelude.{ℕ, ◌-◌, Bool, ◌&&◌, ◌==◌, Option, Some, None, unwrap_or, if◌then◌else◌}
use Rattle.media_types.specs.declared.codec.Codec.{Codec}
use Rattle.media_types.specs.declared.codec.Codec.TheVariants.{Opus, H264, H265, H266, Vp9, Av1}
use Rattle.sdp_formats_rows.specs.Points.{points_if}
use Rattle.sdp_formats_rows.specs.H264Score.{h264_score}
use Rattle.sdp_formats_rows.specs.LevelScore.{GivenH265, GivenH266, h265_score, h266_score}
use Rattle.sdp_formats_rows.specs.Same.{same, same_flag, alike}
use Rattle.sdp_formats_rows.specs.declared.h264.GivenH264.{GivenH264}
use Rattle.sdp_formats_rows.specs.declared.format.FormatParams.{FormatParams}

-- The points subtracted if two values differ.
abbrev pub penalty : Bool → ℕ → ℕ
penalty is_same points = if is_same then 0 else points

-- Opus: each parameter that differs costs its own points; `stereo` and `sprop-stereo` default to off (RFC 7587 6.1).
abbrev pub opus_score : FormatParams → FormatParams → ℕ
opus_score a b =
    100 - penalty (same a.min_p_time b.min_p_time) 1
    - penalty (same_flag a.use_inband_fec b.use_inband_fec) 2
    - penalty (same_flag a.use_dtx b.use_dtx) 4
    - penalty (alike a.stereo b.stereo) 8
    - penalty (alike a.sprop_stereo b.sprop_stereo) 8

-- AMR-WB: the same modes, or modes on at most one side (RFC 4867 8.3.1).
abbrev pub modes_score : Option ℕ → Option ℕ → Option ℕ
modes_score None None = Some 100
modes_score (Some a) (Some b) = points_if (a == b) 99
modes_score None (Some b) = Some 99
modes_score (Some a) None = Some 99

-- VP9: the same profile, by default 0 (RFC 9628 6.1). AV1: the same profile, level and tier, by default 0, 5 and 0.
abbrev pub vp9_score : FormatParams → FormatParams → Option ℕ
vp9_score a b = points_if (unwrap_or a.profile_id 0 == unwrap_or b.profile_id 0) 100

abbrev pub av1_score : FormatParams → FormatParams → Option ℕ
av1_score a b =
    points_if (unwrap_or a.profile 0 == unwrap_or b.profile 0 && unwrap_or a.level_idx 5 == unwrap_or b.level_idx 5
    && unwrap_or a.tier 0 == unwrap_or b.tier 0) 100

-- What a format gives of H.264, H.265 and H.266.
abbrev pub given_264 : FormatParams → GivenH264
given_264 f = record { packetization_mode = f.packetization_mode; profile_level_id = f.profile_level_id }

abbrev pub given_265 : FormatParams → GivenH265
given_265 f = record { level = f.h265_profile_tier_level; profile_id = f.profile_id }

abbrev pub given_266 : FormatParams → GivenH266
given_266 f = record { level = f.h266_profile_tier_level; profile_id = f.profile_id }

-- Different formats of one codec; for codecs not listed, different formats don't match.
abbrev pub format_score : Codec → FormatParams → FormatParams → Option ℕ
format_score Opus a b = Some (opus_score a b)
format_score H264 a b = h264_score (given_264 a) (given_264 b)
format_score H265 a b = h265_score (given_265 a) (given_265 b)
format_score H266 a b = h266_score (given_266 a) (given_266 b)
format_score Vp9 a b = vp9_score a b
format_score Av1 a b = av1_score a b
format_score other a b = None
