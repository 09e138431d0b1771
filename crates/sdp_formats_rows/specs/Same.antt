-- When two formats give the same.
use Rattle.std.specs.Prelude.{ℕ, Bool, true, false, ◌&&◌, ◌==◌, not, Option, Some, None, unwrap_or}
use Rattle.std.specs.Option.{option_map}
use Rattle.sdp_formats_rows.specs.Texts.{numbers_265, numbers_266}
use Rattle.sdp_formats_rows.specs.declared.format.FormatParams.{FormatParams}

abbrev pub same : Option ℕ → Option ℕ → Bool
same None None = true
same (Some a) (Some b) = a == b
same None (Some b) = false
same (Some a) None = false

abbrev pub same_bool : Bool → Bool → Bool
same_bool true b = b
same_bool false b = not b

abbrev pub same_flag : Option Bool → Option Bool → Bool
same_flag None None = true
same_flag (Some a) (Some b) = same_bool a b
same_flag None (Some b) = false
same_flag (Some a) None = false

abbrev pub same_numbers : Option (ℕ × ℕ × ℕ) → Option (ℕ × ℕ × ℕ) → Bool
same_numbers None None = true
same_numbers (Some a) (Some b) = a.0 == b.0 && a.1 == b.1 && a.2 == b.2
same_numbers None (Some b) = false
same_numbers (Some a) None = false

-- Both on or both off, by default off.
abbrev pub alike : Option Bool → Option Bool → Bool
alike a b = same_bool (unwrap_or a false) (unwrap_or b false)

-- Whether all parameters are the same: those of Opus, of other audio, of H.264, of other video, profiles and levels.
abbrev pub same_opus : FormatParams → FormatParams → Bool
same_opus a b =
    same a.min_p_time b.min_p_time && same_flag a.stereo b.stereo && same_flag a.sprop_stereo b.sprop_stereo
    && same_flag a.use_inband_fec b.use_inband_fec && same_flag a.use_dtx b.use_dtx

abbrev pub same_speech : FormatParams → FormatParams → Bool
same_speech a b =
    same_flag a.octet_align b.octet_align && same a.mode_set b.mode_set
    && same a.telephone_event_max b.telephone_event_max

abbrev pub same_h264 : FormatParams → FormatParams → Bool
same_h264 a b =
    same_flag a.level_asymmetry_allowed b.level_asymmetry_allowed && same a.packetization_mode b.packetization_mode
    && same a.profile_level_id b.profile_level_id

abbrev pub same_video : FormatParams → FormatParams → Bool
same_video a b =
    same a.profile_id b.profile_id && same a.profile b.profile && same a.level_idx b.level_idx && same a.tier b.tier
    && same a.sprop_max_don_diff b.sprop_max_don_diff

abbrev pub same_levels : FormatParams → FormatParams → Bool
same_levels a b =
    same_numbers (option_map numbers_265 a.h265_profile_tier_level) (option_map numbers_265 b.h265_profile_tier_level)
    && same_numbers (option_map numbers_266 a.h266_profile_tier_level)
    (option_map numbers_266 b.h266_profile_tier_level)

abbrev pub same_format : FormatParams → FormatParams → Bool
same_format a b = same_opus a b && same_speech a b && same_h264 a b && same_video a b && same_levels a b
