-- A profile, tier and level is read of its three numbers (RFC 7798 7.1, RFC 9328 7.2).
use Rattle.std.proofs.Common.{◌≡◌, ◌<◌, ℕ, true, ◌&&◌, cond, nat_lt, List, [], ◌∷◌, length}
use Rattle.std.proofs.Common.{decimal, Option, Some, None, refl, ◌∙◌, ap, arith, lit<, lit≤}
use Rattle.std.specs.Char.{digit_value}
use Rattle.std.specs.Str.Parse.{AllDigits, digits_value}
use Rattle.std.proofs.lemmas.Fmt.{decimal_is_IsNumeral}
use Rattle.media_types.specs.Values.{all_digits, byte_written}
use Rattle.media_types.specs.H265ProfileTierLevel.{ComesBack as ComesBack265}
use Rattle.media_types.specs.H265ProfileTierLevel.{profile_of as profile_of_265, level_of as level_of_265}
use Rattle.media_types.specs.H266ProfileTierLevel.{ComesBack as ComesBack266, given as given_266}
use Rattle.media_types.specs.H266ProfileTierLevel.{profile_of as profile_of_266, level_of as level_of_266}
use Rattle.media_types.specs.ProfileTierLevel.{known_values, together}
use Rattle.media_types.specs.Tables.{with_number}
use Rattle.media_types.specs.H265Level.{level_id as level_265, levels as levels_265}
use Rattle.media_types.specs.H265Profile.{profile_id as profile_265, profiles as profiles_265}
use Rattle.media_types.specs.Tier.{tier_flag, tiers}
use Rattle.media_types.specs.H266Level.{level_id as level_266}
use Rattle.media_types.specs.H266Profile.{profile_id as profile_266}
use Rattle.media_types.specs.declared.h265.H265Level as l5
use Rattle.media_types.specs.declared.h265.H265Level.TheVariants as level5
use Rattle.media_types.specs.declared.h265.H265Profile as p5
use Rattle.media_types.specs.declared.h265.H265Profile.TheVariants as profile5
use Rattle.media_types.specs.declared.tier.Tier as t
use Rattle.media_types.specs.declared.tier.Tier.TheVariants as tier
use Rattle.media_types.specs.H265ProfileTierLevel.{H265ProfileTierLevel as Level265}
use Rattle.media_types.specs.declared.h266.H266Level as l6
use Rattle.media_types.specs.declared.h266.H266Level.TheVariants as level6
use Rattle.media_types.specs.declared.h266.H266Profile as p6
use Rattle.media_types.specs.declared.h266.H266Profile.TheVariants as profile6
use Rattle.media_types.specs.H266ProfileTierLevel.{H266ProfileTierLevel as Level266}
use Rattle.sdp_formats_values.specs.Params.{level_param}
use Rattle.sdp_formats_values.specs.PrintedParameters.{param_text}
use Rattle.sdp_formats_values.specs.declared.param.FormatParam.TheVariants as param
use Rattle.sdp_formats_laws.proofs.LevelLists.{IsLevelOf}
use Rattle.sdp_formats_laws.proofs.Numerals.{accepted, no_plus, tested}

all_true : (ds : List ℕ) → AllDigits 10 ds → all_digits ds ≡ true
all_true [] h = refl
all_true (c ∷ cs) h = tested (digit_value c) 10 (all_digits cs) h.0 (all_true cs h.1)

abbrev pub byte_of : List ℕ → Option ℕ
byte_of ds = cond (nat_lt 0 (length ds) && all_digits ds && nat_lt (digits_value 10 ds) 256) (Some
    (digits_value 10 ds)) None

byte_back : (n : ℕ) → n < 256 → byte_written (decimal n) ≡ Some n
byte_back n small =
    let numeral = decimal_is_IsNumeral n (omega (small, arith)) in
    ap byte_of (no_plus 10 (decimal n) (lit≤ tt) numeral.0.1)
    ∙ accepted _ _ _ 256 (all_true (decimal n) numeral.0.1) numeral.0.0 (rw numeral.1 small)
    ∙ ap Some numeral.1

profile5_small : (x : p5.H265Profile) → profile_265 x < 256
profile5_small profile5.Main = lit< tt
profile5_small _ = lit< tt

tier_small : (x : t.Tier) → tier_flag x < 256
tier_small tier.Main = lit< tt
tier_small tier.High = lit< tt

level5_small : (x : l5.H265Level) → level_265 x < 256
level5_small level5.Level1 = lit< tt
level5_small _ = lit< tt

profile6_small : (x : p6.H266Profile) → profile_266 x < 256
profile6_small profile6.Main10 = lit< tt
profile6_small profile6.Main10_444 = lit< tt

level6_small : (x : l6.H266Level) → level_266 x < 256
level6_small level6.Level1 = lit< tt
level6_small _ = lit< tt

no_265 : (x : l6.H266Level) → with_number level_265 levels_265 (level_266 x) ≡ None
no_265 level6.Level1 = refl
no_265 _ = refl

none_together : (a : Option p5.H265Profile) (b : Option t.Tier) → together {L = l5.H265Level} a b None ≡ None
none_together None b = refl
none_together (Some a) None = refl
none_together (Some a) (Some b) = refl

pub reads_265 : ComesBack265 → (v : Level265) → IsLevelOf (param.H265ProfileTierLevel v) (profile_265 v.profile)
    (tier_flag v.tier) (level_265 v.level)
unfolding param_text
reads_265 back v = record {
  text = refl;
  reads = ap (λ o. level_param o (given_266 (Some (decimal (profile_265 v.profile)))
      (Some (decimal (tier_flag v.tier))) (Some (decimal (level_265 v.level)))))
      ((λ i. known_values profile_of_265 level_of_265 (byte_back (profile_265 v.profile) (profile5_small v.profile) i)
      (byte_back (tier_flag v.tier) (tier_small v.tier) i) (byte_back (level_265 v.level) (level5_small v.level) i))
      ∙ back v);
  spelled = refl;
  is_one = refl;
  id_small = profile5_small v.profile;
  tier_small = tier_small v.tier;
  level_small = level5_small v.level;
}

pub reads_266 : ComesBack266 → (v : Level266) → IsLevelOf (param.H266ProfileTierLevel v) (profile_266 v.profile)
    (tier_flag v.tier) (level_266 v.level)
unfolding param_text
reads_266 back v =
    let id = byte_back (profile_266 v.profile) (profile6_small v.profile) in
    let tier = byte_back (tier_flag v.tier) (tier_small v.tier) in
    let level = byte_back (level_266 v.level) (level6_small v.level) in
    record {
      text = refl;
      reads = (λ i. level_param (known_values profile_of_265 level_of_265 (id i) (tier i) (level i))
          (known_values profile_of_266 level_of_266 (id i) (tier i) (level i)))
          ∙ (λ i. level_param (together (with_number profile_265 profiles_265 (profile_266 v.profile))
          (with_number tier_flag tiers (tier_flag v.tier)) (no_265 v.level i)) (back v i))
          ∙ ap (λ o. level_param o (Some v)) (none_together
          (with_number profile_265 profiles_265 (profile_266 v.profile))
          (with_number tier_flag tiers (tier_flag v.tier)));
      spelled = refl;
      is_one = refl;
      id_small = profile6_small v.profile;
      tier_small = tier_small v.tier;
      level_small = level6_small v.level;
    }
