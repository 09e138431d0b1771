-- The text of format parameters.
use Rattle.std.specs.Prelude.{ℕ, Bool, true, false, List, ◌++◌, codes, map}
use Rattle.media_types.specs.H265Level.{level_id as level_id_265}
use Rattle.media_types.specs.H265Profile.{profile_id as profile_id_265}
use Rattle.media_types.specs.Tier.{tier_flag}
use Rattle.media_types.specs.H266Level.{level_id as level_id_266}
use Rattle.media_types.specs.H266Profile.{profile_id as profile_id_266}
use Rattle.media_types.specs.declared.profile_tier_level.ProfileTierLevel.{ProfileTierLevel}
use Rattle.media_types.specs.H265ProfileTierLevel.{H265ProfileTierLevel as Level265}
use Rattle.media_types.specs.H266ProfileTierLevel.{H266ProfileTierLevel as Level266}
use Rattle.sdp_formats_grammar.specs.Joined.{joined}
use Rattle.sdp_formats_values.specs.PrintedParameters.{param_text}
use Rattle.sdp_formats_rows.specs.Parameters.{params_of}
use Rattle.sdp_formats_rows.specs.declared.format.FormatParams.{FormatParams}

-- The text of the parameters: those that are given, with semicolons between (RFC 8866 6.15).
abbrev pub format_text : FormatParams → List ℕ
format_text f = joined (codes ";") (map param_text (params_of f))

-- A text, preceded by a semicolon unless it is the first.
abbrev pub part_text : Bool → List ℕ → List ℕ
part_text true text = text
part_text false text = codes ";" ++ text

-- The three numbers of a profile, tier and level (RFC 7798 7.1, RFC 9328 7.2).
abbrev pub numbers_of : {P L : Type 0} → (P → ℕ) → (L → ℕ) → ProfileTierLevel P L → ℕ × ℕ × ℕ
numbers_of profile_id level_id ptl = (profile_id ptl.profile, tier_flag ptl.tier, level_id ptl.level)

abbrev pub numbers_265 : Level265 → ℕ × ℕ × ℕ
numbers_265 ptl = numbers_of profile_id_265 level_id_265 ptl

abbrev pub numbers_266 : Level266 → ℕ × ℕ × ℕ
numbers_266 ptl = numbers_of profile_id_266 level_id_266 ptl
