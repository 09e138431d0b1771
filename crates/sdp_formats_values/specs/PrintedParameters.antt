-- Format parameters as they are printed (RFC 8866 6.15).
use Rattle.std.specs.Prelude.{ℕ, ◌^◌, ◌/◌, ◌%◌, ◌-◌, ◌==◌, ◌&&◌, nat_le, Bool, true, false, List, [], ◌∷◌, ◌++◌, map}
use Rattle.std.specs.Prelude.{filter, Option, None, Some}
use Rattle.std.specs.Prelude.{codes}
use Rattle.std.specs.Fmt.{decimal, digits, padded_integral, format_spec}
use Rattle.sdp_formats_grammar.specs.Joined.{spelled, joined, each_behind}
use Rattle.media_types.specs.H265Profile.{profile_id as profile_265}
use Rattle.media_types.specs.Tier.{tier_flag}
use Rattle.media_types.specs.H265Level.{level_id as level_265}
use Rattle.media_types.specs.H266Profile.{profile_id as profile_266}
use Rattle.media_types.specs.H266Level.{level_id as level_266}
use Rattle.sdp_formats_values.specs.declared.pairs.Pair.{Pair}
use Rattle.sdp_formats_values.specs.declared.param.FormatParam.{FormatParam}
use Rattle.sdp_formats_values.specs.declared.param.FormatParam.TheVariants.{MinPTime, Stereo, SpropStereo}
use Rattle.sdp_formats_values.specs.declared.param.FormatParam.TheVariants.{UseInbandFec, UseDtx}
use Rattle.sdp_formats_values.specs.declared.param.FormatParam.TheVariants.{LevelAsymmetryAllowed, PacketizationMode}
use Rattle.sdp_formats_values.specs.declared.param.FormatParam.TheVariants.{ProfileLevelId, ProfileId, Profile}
use Rattle.sdp_formats_values.specs.declared.param.FormatParam.TheVariants.{LevelIdx, Tier, H265ProfileTierLevel}
use Rattle.sdp_formats_values.specs.declared.param.FormatParam.TheVariants.{H266ProfileTierLevel, SpropMaxDonDiff}
use Rattle.sdp_formats_values.specs.declared.param.FormatParam.TheVariants.{TelephoneEvents, BareRange, BarePtList}
use Rattle.sdp_formats_values.specs.declared.param.FormatParam.TheVariants.{OctetAlign, ModeSet, AmrWbUnsupported}
use Rattle.sdp_formats_values.specs.declared.param.FormatParam.TheVariants.{Apt, Red, Unknown}

abbrev pub pair_text : Pair → List ℕ
pair_text p = p.key ++ (codes "=" ++ p.value)

-- A name and a value, if the value has a text.
abbrev pub named_output : List ℕ → Option (List ℕ) → Option (List ℕ)
named_output name None = None
named_output name (Some value) = Some (name ++ value)

-- A flag is 1 or 0.
abbrev pub flag_digit : Bool → ℕ
flag_digit true = 1
flag_digit false = 0

abbrev pub levels_text : ℕ → ℕ → ℕ → List ℕ
levels_text profile tier level = spelled (codes "profile-id=" ∷ decimal profile ∷ codes ";tier-flag=" ∷ decimal tier
    ∷ codes ";level-id=" ∷ decimal level ∷ [])

-- The modes, 0 to 8, whose bits are set (RFC 4867 8.2).
abbrev pub has_mode : ℕ → ℕ → Bool
has_mode modes mode = nat_le mode 8 && (modes / 2 ^ mode % 2 == 1)

abbrev pub mode_text : Bool → ℕ → List ℕ
mode_text true mode = decimal mode
mode_text false mode = codes "," ++ decimal mode

abbrev pub modes_among : ℕ → List ℕ → List (List ℕ)
modes_among modes all = map decimal (filter (has_mode modes) all)

abbrev pub modes_text : ℕ → List ℕ
modes_text modes = joined (codes ",") (modes_among modes (0 ∷ 1 ∷ 2 ∷ 3 ∷ 4 ∷ 5 ∷ 6 ∷ 7 ∷ 8 ∷ []))

-- Texts separated by commas; the first also gets one, unless it is the first of all.
abbrev pub modes_left : Bool → List (List ℕ) → List ℕ
modes_left true texts = joined (codes ",") texts
modes_left false texts = each_behind (codes ",") texts

-- At least six hexadecimal digits.
abbrev pub six_digits : ℕ → List ℕ
six_digits number = padded_integral (format_spec 32 0 4 6 (2 ^ 64 - 1)) false [] (digits 16 false number)

-- What is before a flag or a byte.
abbrev pub name_before : FormatParam → List ℕ
name_before (UseInbandFec v) = codes "useinbandfec="
name_before (UseDtx v) = codes "usedtx="
name_before (Stereo v) = codes "stereo="
name_before (SpropStereo v) = codes "sprop-stereo="
name_before (LevelAsymmetryAllowed v) = codes "level-asymmetry-allowed="
name_before (OctetAlign v) = codes "octet-align="
name_before (MinPTime v) = codes "minptime="
name_before (PacketizationMode v) = codes "packetization-mode="
name_before (Profile v) = codes "profile="
name_before (LevelIdx v) = codes "level-idx="
name_before (Tier v) = codes "tier="
name_before (TelephoneEvents v) = codes "0-"
name_before (BareRange v) = codes "0-"
name_before _ = []

unfoldable pub param_text : FormatParam → List ℕ
param_text (MinPTime v) = codes "minptime=" ++ decimal v
param_text (UseInbandFec v) = codes "useinbandfec=" ++ decimal (flag_digit v)
param_text (UseDtx v) = codes "usedtx=" ++ decimal (flag_digit v)
param_text (Stereo v) = codes "stereo=" ++ decimal (flag_digit v)
param_text (SpropStereo v) = codes "sprop-stereo=" ++ decimal (flag_digit v)
param_text (LevelAsymmetryAllowed v) = codes "level-asymmetry-allowed=" ++ decimal (flag_digit v)
param_text (PacketizationMode v) = codes "packetization-mode=" ++ decimal v
param_text (ProfileLevelId v) = codes "profile-level-id=" ++ six_digits v
param_text (ProfileId v) = codes "profile-id=" ++ decimal v
param_text (Profile v) = codes "profile=" ++ decimal v
param_text (LevelIdx v) = codes "level-idx=" ++ decimal v
param_text (Tier v) = codes "tier=" ++ decimal v
param_text (H265ProfileTierLevel v) = levels_text (profile_265 v.profile) (tier_flag v.tier) (level_265 v.level)
param_text (H266ProfileTierLevel v) = levels_text (profile_266 v.profile) (tier_flag v.tier) (level_266 v.level)
param_text (SpropMaxDonDiff v) = codes "sprop-max-don-diff=" ++ decimal v
param_text (TelephoneEvents v) = codes "0-" ++ decimal v
param_text (BareRange v) = codes "0-" ++ decimal v
param_text (BarePtList pt) = decimal pt ++ (codes "/" ++ decimal pt)
param_text (OctetAlign v) = codes "octet-align=" ++ decimal (flag_digit v)
param_text (ModeSet modes) = codes "mode-set=" ++ modes_text modes
param_text AmrWbUnsupported = []
param_text (Apt pt) = codes "apt=" ++ decimal pt
param_text (Red pt) = decimal pt ++ (codes "/" ++ decimal pt)
param_text Unknown = []
