-- How well what two sides give of H.264 matches (RFC 6184 8.1, 8.2.2).
use Rattle.std.specs.Prelude.{ℕ, Bool, ◌==◌, Option, Some, None, unwrap_or, if◌then◌else◌}
use Rattle.media_types.specs.Tables.{place_of}
use Rattle.media_types.specs.H264LevelIdc.{level_idc, levels}
use Rattle.media_types.specs.H264ProfileLevel.{fallback, profile_level_of}
use Rattle.media_types.specs.declared.h264.H264LevelIdc.{H264LevelIdc}
use Rattle.media_types.specs.declared.h264.H264Profile.{H264Profile}
use Rattle.media_types.specs.declared.h264.H264Profile.TheVariants.{ConstrainedBaseline, Baseline, Main}
use Rattle.media_types.specs.declared.h264.H264Profile.TheVariants.{High, ConstrainedHigh}
use Rattle.media_types.specs.declared.h264.H264Profile.TheVariants.{High444Predictive}
use Rattle.media_types.specs.declared.h264.H264ProfileLevel.{H264ProfileLevel}
use Rattle.sdp_formats_rows.specs.declared.h264.GivenH264.{GivenH264}
use Rattle.sdp_formats_rows.specs.Points.{level_points, points_if}

-- A number for each profile.
abbrev pub profile_number : H264Profile → ℕ
profile_number ConstrainedBaseline = 0
profile_number Baseline = 1
profile_number Main = 2
profile_number High = 3
profile_number ConstrainedHigh = 4
profile_number High444Predictive = 5

abbrev pub same_profile : H264Profile → H264Profile → Bool
same_profile a b = profile_number a == profile_number b

-- The meaning of a profile-level-id: baseline at level 1 if not given; none if it isn't in the tables.
abbrev pub level_given : Option ℕ → Option H264ProfileLevel
level_given None = Some fallback
level_given (Some id) = profile_level_of id

abbrev pub place : H264LevelIdc → ℕ
place level = place_of level_idc levels level

-- The same profile; different levels cost their distance.
abbrev pub known_score : H264ProfileLevel → H264ProfileLevel → Option ℕ
known_score a b = points_if (same_profile a.profile b.profile) (level_points (place a.level) (place b.level))

abbrev pub profiles_score : Option H264ProfileLevel → Option H264ProfileLevel → Option ℕ
profiles_score (Some a) (Some b) = known_score a b
profiles_score None b = None
profiles_score (Some a) None = None

-- The same packetization mode (by default 0) and the same profile.
abbrev pub h264_score : GivenH264 → GivenH264 → Option ℕ
h264_score a b =
    if unwrap_or a.packetization_mode 0 == unwrap_or b.packetization_mode 0
    then profiles_score (level_given a.profile_level_id) (level_given b.profile_level_id)
    else None
