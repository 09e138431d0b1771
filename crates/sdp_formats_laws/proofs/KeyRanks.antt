-- Keys of parameters, in the order in which a format prints them.
use Rattle.std.proofs.Common.{◌≡◌, ℕ, false, List, map}
use Rattle.std.proofs.Common.{codes, Option, Some, None, refl}
use Rattle.std.specs.Char.{to_ascii_lowercase}
use Rattle.std.specs.Str.{str_eq_ignore_ascii_case}
use Rattle.sdp_formats_values.specs.Keys.{key_named, is_name_of}
use Rattle.sdp_formats_values.specs.Params.{is_level_name}
use Rattle.sdp_formats_values.specs.declared.key.Key.{Key}
use Rattle.sdp_formats_values.specs.declared.key.Key.TheVariants as key
use Rattle.sdp_formats_values.specs.declared.pairs.Pair.{Pair}
use Rattle.sdp_formats_values.specs.declared.param.FormatParam.{FormatParam}
use Rattle.sdp_formats_values.specs.declared.param.FormatParam.TheVariants as param
use Rattle.sdp_formats_laws.specs.Keyed.{IsKeyed, IsOrdinary, pair_of}

-- keys in the order in which a format's parameters are printed
abbrev pub key_rank : Option Key → ℕ
key_rank None = 0
key_rank (Some key.MinPTime) = 1
key_rank (Some key.Stereo) = 2
key_rank (Some key.SpropStereo) = 3
key_rank (Some key.UseInbandFec) = 4
key_rank (Some key.UseDtx) = 5
key_rank (Some key.LevelAsymmetryAllowed) = 6
key_rank (Some key.PacketizationMode) = 7
key_rank (Some key.ProfileLevelId) = 8
key_rank (Some key.Profile) = 10
key_rank (Some key.LevelIdx) = 11
key_rank (Some key.Tier) = 12
key_rank (Some key.SpropMaxDonDiff) = 16
key_rank (Some key.OctetAlign) = 18
key_rank (Some key.ModeSet) = 19
key_rank (Some key.ProfileId) = 13
key_rank (Some key.TierFlag) = 14
key_rank (Some key.LevelId) = 15

abbrev pub rank_of : FormatParam → ℕ
rank_of (param.MinPTime v) = 1
rank_of (param.Stereo v) = 2
rank_of (param.SpropStereo v) = 3
rank_of (param.UseInbandFec v) = 4
rank_of (param.UseDtx v) = 5
rank_of (param.LevelAsymmetryAllowed v) = 6
rank_of (param.PacketizationMode v) = 7
rank_of (param.ProfileLevelId v) = 8
rank_of (param.Profile v) = 10
rank_of (param.LevelIdx v) = 11
rank_of (param.Tier v) = 12
rank_of (param.SpropMaxDonDiff v) = 16
rank_of (param.OctetAlign v) = 18
rank_of (param.ModeSet v) = 19
rank_of _ = 0

abbrev pub lower : Pair → List ℕ
lower q = map to_ascii_lowercase q.key

unfoldable pub rank : List ℕ → ℕ
rank t = key_rank (key_named t)

pub ordinary : (p : FormatParam) → IsOrdinary p → IsKeyed p
ordinary (param.H265ProfileTierLevel v) h = absurd h
ordinary (param.H266ProfileTierLevel v) h = absurd h
ordinary (param.TelephoneEvents v) h = absurd h
ordinary (param.BareRange v) h = absurd h
ordinary (param.BarePtList v) h = absurd h
ordinary param.AmrWbUnsupported h = absurd h
ordinary (param.Red v) h = absurd h
ordinary param.Unknown h = absurd h
ordinary (param.ProfileId v) h = absurd h
ordinary _ h = h

pub same_lower : (p : FormatParam) → IsOrdinary p → lower (pair_of p) ≡ (pair_of p).key
same_lower (param.H265ProfileTierLevel v) h = absurd h
same_lower (param.H266ProfileTierLevel v) h = absurd h
same_lower (param.TelephoneEvents v) h = absurd h
same_lower (param.BareRange v) h = absurd h
same_lower (param.BarePtList v) h = absurd h
same_lower param.AmrWbUnsupported h = absurd h
same_lower (param.Red v) h = absurd h
same_lower param.Unknown h = absurd h
same_lower (param.ProfileId v) h = absurd h
same_lower _ h = refl

pub ranked : (p : FormatParam) → IsOrdinary p → rank (lower (pair_of p)) ≡ rank_of p
unfolding rank key_named is_name_of
ranked (param.H265ProfileTierLevel v) h = absurd h
ranked (param.H266ProfileTierLevel v) h = absurd h
ranked (param.TelephoneEvents v) h = absurd h
ranked (param.BareRange v) h = absurd h
ranked (param.BarePtList v) h = absurd h
ranked param.AmrWbUnsupported h = absurd h
ranked (param.Red v) h = absurd h
ranked param.Unknown h = absurd h
ranked (param.ProfileId v) h = absurd h
ranked _ h = refl

pub no_name : (p : FormatParam) → IsOrdinary p → is_level_name (lower (pair_of p)) ≡ false
no_name (param.H265ProfileTierLevel v) h = absurd h
no_name (param.H266ProfileTierLevel v) h = absurd h
no_name (param.TelephoneEvents v) h = absurd h
no_name (param.BareRange v) h = absurd h
no_name (param.BarePtList v) h = absurd h
no_name param.AmrWbUnsupported h = absurd h
no_name (param.Red v) h = absurd h
no_name param.Unknown h = absurd h
no_name (param.ProfileId v) h = absurd h
no_name _ h = refl

pub no_profile : (p : FormatParam) → IsOrdinary p → str_eq_ignore_ascii_case (codes "profile-id") (pair_of p).key
    ≡ false
no_profile (param.H265ProfileTierLevel v) h = absurd h
no_profile (param.H266ProfileTierLevel v) h = absurd h
no_profile (param.TelephoneEvents v) h = absurd h
no_profile (param.BareRange v) h = absurd h
no_profile (param.BarePtList v) h = absurd h
no_profile param.AmrWbUnsupported h = absurd h
no_profile (param.Red v) h = absurd h
no_profile param.Unknown h = absurd h
no_profile (param.ProfileId v) h = absurd h
no_profile _ h = refl

pub no_tier : (p : FormatParam) → IsOrdinary p → str_eq_ignore_ascii_case (codes "tier-flag") (pair_of p).key ≡ false
no_tier (param.H265ProfileTierLevel v) h = absurd h
no_tier (param.H266ProfileTierLevel v) h = absurd h
no_tier (param.TelephoneEvents v) h = absurd h
no_tier (param.BareRange v) h = absurd h
no_tier (param.BarePtList v) h = absurd h
no_tier param.AmrWbUnsupported h = absurd h
no_tier (param.Red v) h = absurd h
no_tier param.Unknown h = absurd h
no_tier (param.ProfileId v) h = absurd h
no_tier _ h = refl

pub no_level_id : (p : FormatParam) → IsOrdinary p → str_eq_ignore_ascii_case (codes "level-id") (pair_of p).key ≡ false
no_level_id (param.H265ProfileTierLevel v) h = absurd h
no_level_id (param.H266ProfileTierLevel v) h = absurd h
no_level_id (param.TelephoneEvents v) h = absurd h
no_level_id (param.BareRange v) h = absurd h
no_level_id (param.BarePtList v) h = absurd h
no_level_id param.AmrWbUnsupported h = absurd h
no_level_id (param.Red v) h = absurd h
no_level_id param.Unknown h = absurd h
no_level_id (param.ProfileId v) h = absurd h
no_level_id _ h = refl
