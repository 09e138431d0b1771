-- What an `a=fmtp` line gives (RFC 8866 6.15).
use Rattle.std.specs.Prelude.{◌≡◌, ◌↔◌, ℕ, ◌^◌, Bool, ◌&&◌, ◌||◌, List, Option, None, codes, if◌then◌else◌, is_none}
use Rattle.std.specs.Prelude.{is_some, option_and_then, option_map}
use Rattle.std.specs.Str.{bytes_eq}
use Rattle.media_types.specs.H265ProfileTierLevel.{H265ProfileTierLevel as Level265, given as given_265}
use Rattle.media_types.specs.H266ProfileTierLevel.{H266ProfileTierLevel as Level266, given as given_266}
use Rattle.sdp_formats_rows.specs.Formats.{format_of, word_value}
use Rattle.sdp_formats_rows.specs.declared.format.FormatParams.{FormatParams}
use Rattle.sdp_formats_values.specs.Numbers.{modes_of, numeral_below, profile_level, up_to}
use Rattle.sdp_formats_values.specs.Params.{byte_value}
use Rattle.sdp_formats_values.specs.declared.key.Key.{Key}
use Rattle.sdp_formats_values.specs.declared.key.Key.TheVariants as key
use Rattle.sdp_formats_laws.specs.FormatParts.{last_given, range_in, value_in}

-- The last value of a key.
abbrev pub last_value : Key → List ℕ → Option (List ℕ)
last_value key line = last_given (value_in key) line

-- Some part gives the tier or the level of H.265 or H.266 (RFC 7798 7.1, RFC 9328 7.2).
abbrev pub has_level : List ℕ → Bool
has_level line = is_some (last_value key.TierFlag line) || is_some (last_value key.LevelId line)

-- A flag is on if its last value is 1.
abbrev pub flag_of : Key → List ℕ → Option Bool
flag_of key line = option_map (λ value. bytes_eq value (codes "1")) (last_value key line)

-- A number is the last value that parses; but if the line has a tier or level, the last value, if that parses.
abbrev pub number_of : (List ℕ → Option ℕ) → Key → List ℕ → Option ℕ
number_of read key line =
    if has_level line
    then option_and_then read (last_value key line)
    else last_given (λ part. option_and_then read (value_in key part)) line

-- The number of `sprop-max-don-diff`, at most 32,767 (RFC 7798 7.1, RFC 9328 7.2).
abbrev pub difference_value : List ℕ → Option ℕ
difference_value value = up_to 32767 (numeral_below (2 ^ 16) 10 value)

-- If the line has a tier or level: the profile, tier and level that the last values of the three keys mean for H.265,
-- or else for H.266.
abbrev pub level_265 : List ℕ → Option Level265
level_265 line =
    if has_level line
    then given_265 (last_value key.ProfileId line) (last_value key.TierFlag line) (last_value key.LevelId line)
    else None

abbrev pub level_266 : List ℕ → Option Level266
level_266 line =
    if has_level line && is_none (level_265 line)
    then given_266 (last_value key.ProfileId line) (last_value key.TierFlag line) (last_value key.LevelId line)
    else None

-- Each parameter of the format is the one the line gives.
pub record AreGiven (line : List ℕ) (format : FormatParams) : Type 0 where
  pub min_p_time : format.min_p_time ≡ number_of byte_value key.MinPTime line
  pub stereo : format.stereo ≡ flag_of key.Stereo line
  pub sprop_stereo : format.sprop_stereo ≡ flag_of key.SpropStereo line
  pub use_inband_fec : format.use_inband_fec ≡ flag_of key.UseInbandFec line
  pub use_dtx : format.use_dtx ≡ flag_of key.UseDtx line
  pub level_asymmetry_allowed : format.level_asymmetry_allowed ≡ flag_of key.LevelAsymmetryAllowed line
  pub packetization_mode : format.packetization_mode ≡ number_of byte_value key.PacketizationMode line
  pub profile_level_id : format.profile_level_id ≡ number_of profile_level key.ProfileLevelId line
  pub profile_id : format.profile_id ≡ (if has_level line then None else number_of word_value key.ProfileId line)
  pub profile : format.profile ≡ number_of byte_value key.Profile line
  pub level_idx : format.level_idx ≡ number_of byte_value key.LevelIdx line
  pub tier : format.tier ≡ number_of byte_value key.Tier line
  pub h265_profile_tier_level : format.h265_profile_tier_level ≡ level_265 line
  pub h266_profile_tier_level : format.h266_profile_tier_level ≡ level_266 line
  pub sprop_max_don_diff : format.sprop_max_don_diff ≡ number_of difference_value key.SpropMaxDonDiff line
  pub telephone_event_max : format.telephone_event_max ≡ last_given range_in line
  pub octet_align : format.octet_align ≡ flag_of key.OctetAlign line
  pub mode_set : format.mode_set ≡ number_of modes_of key.ModeSet line

abbrev pub FormatsAreOfLines : Type 0
FormatsAreOfLines = (line : List ℕ) (format : FormatParams) → (format ≡ format_of line) ↔ AreGiven line format
