-- Format parameters of a codec, and the text that gives them.
use Rattle.std.specs.Prelude.{ℕ, ◌^◌, Bool, true, false, List, [], ◌∷◌, codes, Option, None, Some, if◌then◌else◌}
use Rattle.std.specs.List.{list_any}
use Rattle.std.specs.Str.{bytes_eq, trim}
use Rattle.media_types.specs.H265ProfileTierLevel.{given as given_265}
use Rattle.media_types.specs.H266ProfileTierLevel.{given as given_266}
use Rattle.media_types.specs.H265ProfileTierLevel.{H265ProfileTierLevel as Level265}
use Rattle.media_types.specs.H266ProfileTierLevel.{H266ProfileTierLevel as Level266}
use Rattle.sdp_formats_rows.specs.declared.format.FormatParams.{FormatParams}
use Rattle.sdp_formats_values.specs.declared.key.Key.{Key}
use Rattle.sdp_formats_values.specs.declared.key.Key.TheVariants.{MinPTime, Stereo, SpropStereo, UseInbandFec, UseDtx}
use Rattle.sdp_formats_values.specs.declared.key.Key.TheVariants.{LevelAsymmetryAllowed, PacketizationMode}
use Rattle.sdp_formats_values.specs.declared.key.Key.TheVariants.{ProfileLevelId, ProfileId, Profile, LevelIdx, Tier}
use Rattle.sdp_formats_values.specs.declared.key.Key.TheVariants.{SpropMaxDonDiff, OctetAlign, ModeSet, TierFlag}
use Rattle.sdp_formats_values.specs.declared.key.Key.TheVariants.{LevelId}
use Rattle.sdp_formats_values.specs.Keys.{key_named}
use Rattle.sdp_formats_values.specs.Numbers.{numeral_below, profile_level, up_to, modes_of, range_of}
use Rattle.sdp_formats_values.specs.Params.{byte_value}
use Rattle.sdp_formats_grammar.specs.Split.{parts}
use Rattle.sdp_formats_rows.specs.LineValues.{gives_level, last_value}

-- No parameter is given.
abbrev pub no_format : FormatParams
no_format = record {
  min_p_time = None;
  stereo = None;
  sprop_stereo = None;
  use_inband_fec = None;
  use_dtx = None;
  level_asymmetry_allowed = None;
  packetization_mode = None;
  profile_level_id = None;
  profile_id = None;
  profile = None;
  level_idx = None;
  tier = None;
  h265_profile_tier_level = None;
  h266_profile_tier_level = None;
  sprop_max_don_diff = None;
  telephone_event_max = None;
  octet_align = None;
  mode_set = None;
}

-- A later value of a parameter replaces the earlier one. If it doesn't parse, it is ignored; but if only the last value
-- counts, it leaves none.
abbrev pub replaced : Bool → Option ℕ → Option ℕ → Option ℕ
replaced last_alone earlier (Some value) = Some value
replaced last_alone earlier None = if last_alone then None else earlier

-- A flag is on for 1, off for anything else.
abbrev pub is_on : List ℕ → Option Bool
is_on value = Some (bytes_eq value (codes "1"))

-- A number of 32 bits.
abbrev pub word_value : List ℕ → Option ℕ
word_value value = numeral_below (2 ^ 32) 10 value

-- The parameters with one more value.
abbrev pub with_value : Bool → Key → List ℕ → FormatParams → FormatParams
with_value last MinPTime value f = record f { min_p_time = replaced last f.min_p_time (byte_value value) }
with_value last Stereo value f = record f { stereo = is_on value }
with_value last SpropStereo value f = record f { sprop_stereo = is_on value }
with_value last UseInbandFec value f = record f { use_inband_fec = is_on value }
with_value last UseDtx value f = record f { use_dtx = is_on value }
with_value last LevelAsymmetryAllowed value f = record f { level_asymmetry_allowed = is_on value }
with_value last PacketizationMode value f =
    record f { packetization_mode = replaced last f.packetization_mode (byte_value value) }
with_value last ProfileLevelId value f =
    record f { profile_level_id = replaced last f.profile_level_id (profile_level value) }
with_value true ProfileId value f = f
with_value false ProfileId value f = record f { profile_id = replaced false f.profile_id (word_value value) }
with_value last Profile value f = record f { profile = replaced last f.profile (byte_value value) }
with_value last LevelIdx value f = record f { level_idx = replaced last f.level_idx (byte_value value) }
with_value last Tier value f = record f { tier = replaced last f.tier (byte_value value) }
with_value last SpropMaxDonDiff value f =
    record f {
      sprop_max_don_diff = replaced last f.sprop_max_don_diff (up_to 32767 (numeral_below (2 ^ 16) 10 value));
    }
with_value last OctetAlign value f = record f { octet_align = is_on value }
with_value last ModeSet value f = record f { mode_set = replaced last f.mode_set (modes_of value) }
with_value last TierFlag value f = f
with_value last LevelId value f = f

-- The parameters after one more part: a key and its value up to a second equals sign (blanks around both are dropped),
-- or a bare range of telephone events (RFC 4733 2.4.1). Other parts are ignored.
abbrev pub with_key : Bool → Option Key → List ℕ → FormatParams → FormatParams
with_key last None value f = f
with_key last (Some key) value f = with_value last key value f

abbrev pub with_range : Option ℕ → FormatParams → FormatParams
with_range None f = f
with_range (Some event) f = record f { telephone_event_max = Some event }

abbrev pub with_fields : Bool → List (List ℕ) → FormatParams → FormatParams
with_fields last [] f = f
with_fields last (word ∷ []) f = with_range (range_of (trim word)) f
with_fields last (key ∷ value ∷ others) f = with_key last (key_named (trim key)) (trim value) f

abbrev pub with_parts : Bool → List (List ℕ) → FormatParams → FormatParams
with_parts last [] f = f
with_parts last (part ∷ rest) f = with_parts last rest (with_fields last (parts 61 part) f)

-- The profile, tier and level that the last values of the three keys mean for H.265, or else for H.266 (RFC 7798 7.1,
-- RFC 9328 7.2).
abbrev pub with_level : Option Level265 → Option Level266 → FormatParams
with_level (Some ptl) other = record no_format { h265_profile_tier_level = Some ptl }
with_level None other = record no_format { h266_profile_tier_level = other }

abbrev pub with_values : Option (List ℕ) → Option (List ℕ) → Option (List ℕ) → FormatParams
with_values id tier level = with_level (given_265 id tier level) (given_266 id tier level)

abbrev pub level_format : List (List ℕ) → FormatParams
level_format ps =
    if list_any gives_level ps
    then with_values (last_value ProfileId ps None) (last_value TierFlag ps None) (last_value LevelId ps None)
    else no_format

-- The parameters of a line (RFC 8866 6.15): its parts, split at semicolons, in order. If one gives a tier or level,
-- only the last value of each key counts, and `profile-id`, `tier-flag` and `level-id` make one profile, tier and
-- level.
unfoldable pub format_of : List ℕ → FormatParams
format_of line = with_parts (list_any gives_level (parts 59 line)) (parts 59 line) (level_format (parts 59 line))
