-- A profile and level of H.264, and its profile-level-id in SDP (RFC 6184 8.1).
use Rattle.std.specs.Prelude.{ℕ, ◌/◌, ◌%◌, ◌<◌, ◌≤◌, count_by, nat_lt, ok_or, Option, Some, None, Result}
use Rattle.std.specs.Prelude.{if◌then◌else◌}
use Rattle.media_types.specs.Tables.{with_number}
use Rattle.media_types.specs.H264LevelIdc.{level_idc, levels}
use Rattle.media_types.specs.H264Profile.{is_of_row, profile_of, rows}
use Rattle.media_types.specs.H264ProfileIdc.{profile_idc, profile_idcs}
use Rattle.media_types.specs.declared.h264.H264LevelIdc.{H264LevelIdc}
use Rattle.media_types.specs.declared.h264.H264LevelIdc.TheVariants.{Level1}
use Rattle.media_types.specs.declared.h264.H264Profile.{H264Profile}
use Rattle.media_types.specs.declared.h264.H264Profile.TheVariants.{Baseline}
use Rattle.media_types.specs.declared.h264.H264ProfileIdc.{H264ProfileIdc}
use Rattle.media_types.specs.declared.h264.H264ProfileLevel.{H264ProfileLevel}
use Rattle.media_types.specs.declared.h264.H264ProfileError.{H264ProfileError}
use Rattle.media_types.specs.declared.h264.H264ProfileError.TheVariants.{UnknownLevelIdc}
use Rattle.media_types.specs.declared.h264.H264ProfileError.TheVariants.{UnknownProfileIdc}
use Rattle.media_types.specs.declared.h264.H264ProfileError.TheVariants.{UnknownProfileLevelId}

-- The pair, if both are known.
abbrev pub together : Option H264Profile → Option H264LevelIdc → Option H264ProfileLevel
together (Some profile) (Some level) = Some (record { profile = profile; level = level })
together _ _ = None

-- The meaning of a three-byte number: profile_idc, profile_iop, level_idc. A greater number has none.
abbrev pub profile_level_of : ℕ → Option H264ProfileLevel
profile_level_of number =
    if nat_lt 0xFFFFFF number then None
    else together (profile_of (number / 65536) (number / 256 % 256)) (with_number level_idc levels (number % 256))

-- What is read of a number or a byte.
abbrev pub read_profile_level : ℕ → Result H264ProfileLevel H264ProfileError
read_profile_level number = ok_or (profile_level_of number) (UnknownProfileLevelId number)

abbrev pub read_profile_idc : ℕ → Result H264ProfileIdc H264ProfileError
read_profile_idc byte = ok_or (with_number profile_idc profile_idcs byte) (UnknownProfileIdc byte)

abbrev pub read_level_idc : ℕ → Result H264LevelIdc H264ProfileError
read_level_idc byte = ok_or (with_number level_idc levels byte) (UnknownLevelIdc byte)

-- The default.
abbrev pub fallback : H264ProfileLevel
fallback = record { profile = Baseline; level = Level1 }

-- Two bytes match at most one row.
abbrev pub HasOneRow : Type 0
HasOneRow = (idc iop : ℕ) → iop < 256 → count_by (is_of_row idc iop) rows ≤ 1
