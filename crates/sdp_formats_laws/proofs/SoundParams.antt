-- The parameters that are read have values of their widths.
use Rattle.std.proofs.Common.{◌^◌, ◌||◌, ◌&&◌, ℕ, Bool, true, false, List, [], ◌∷◌, ◌++◌, map, codes, Option, Some}
use Rattle.std.proofs.Common.{None, IfSome, if◌then◌else◌}
use Rattle.std.specs.List.{list_any}
use Rattle.std.specs.Str.{bytes_eq, str_eq_ignore_ascii_case}
use Rattle.media_types.specs.H265ProfileTierLevel.{given as given_265}
use Rattle.media_types.specs.H266ProfileTierLevel.{given as given_266}
use Rattle.media_types.specs.H265ProfileTierLevel.{H265ProfileTierLevel as Level265}
use Rattle.media_types.specs.H266ProfileTierLevel.{H266ProfileTierLevel as Level266}
use Rattle.sdp_formats_rounds.specs.Members.{IsEach}
use Rattle.sdp_formats_values.specs.Keys.{key_named}
use Rattle.sdp_formats_values.specs.Numbers.{modes_of, numeral_below, profile_level, up_to}
use Rattle.sdp_formats_values.specs.Params.{Entries, byte_param, byte_value, gives_level, is_level_name, last_value}
use Rattle.sdp_formats_values.specs.Params.{level_param, level_params, level_266, levels_of, named_param}
use Rattle.sdp_formats_values.specs.Params.{other_param, others_of, pair_param, param_of, params_of, value_param}
use Rattle.sdp_formats_values.specs.Params.{with_pairs, word_param}
use Rattle.sdp_formats_values.specs.declared.key.Key.{Key}
use Rattle.sdp_formats_values.specs.declared.key.Key.TheVariants as key
use Rattle.sdp_formats_values.specs.declared.pairs.Pair.{Pair}
use Rattle.sdp_formats_values.specs.declared.param.FormatParam.{FormatParam}
use Rattle.sdp_formats_values.specs.declared.param.FormatParam.TheVariants.{AmrWbUnsupported, Apt, ModeSet, ProfileId}
use Rattle.sdp_formats_values.specs.declared.param.FormatParam.TheVariants.{ProfileLevelId, SpropMaxDonDiff, Unknown}
use Rattle.sdp_formats_laws.specs.ReadLines.{IsSoundParam}
use Rattle.sdp_formats_laws.proofs.FormatRanges.{modes_in, number_in, up_in}

word_sound : (made : ℕ → FormatParam) (o : Option ℕ) → IfSome o (λ n. IsSoundParam (made n))
    → IsSoundParam (word_param made o)
word_sound made None h = tt
word_sound made (Some n) h = h

any_number : (o : Option ℕ) → IfSome o (λ n. Unit {0})
any_number None = tt
any_number (Some n) = tt

byte_sound : (k : Key) (o : Option ℕ) → IsSoundParam (byte_param k o)
byte_sound k None = tt
byte_sound key.MinPTime (Some n) = tt
byte_sound k (Some n) = tt

value_sound : (k : Key) (v : List ℕ) → IsSoundParam (value_param k v)
value_sound key.MinPTime v = byte_sound key.MinPTime (byte_value v)
value_sound key.PacketizationMode v = byte_sound key.PacketizationMode (byte_value v)
value_sound key.Profile v = byte_sound key.Profile (byte_value v)
value_sound key.LevelIdx v = byte_sound key.LevelIdx (byte_value v)
value_sound key.Tier v = byte_sound key.Tier (byte_value v)
value_sound key.ProfileLevelId v = word_sound ProfileLevelId (profile_level v) (any_number (profile_level v))
value_sound key.ProfileId v = word_sound ProfileId (numeral_below (2 ^ 32) 10 v) (number_in (2 ^ 32) 10 v)
value_sound key.SpropMaxDonDiff v = word_sound SpropMaxDonDiff (up_to 32767 (numeral_below (2 ^ 16) 10 v))
    (up_in 32767 (numeral_below (2 ^ 16) 10 v))
value_sound key.ModeSet v = word_sound ModeSet (modes_of v) (modes_in v)
value_sound k v = tt

if_sound : (b : Bool) (p q : FormatParam) → IsSoundParam p → IsSoundParam q → IsSoundParam (if b then p else q)
if_sound true p q h k = h
if_sound false p q h k = k

other_sound : (k v : List ℕ) → IsSoundParam (other_param k v)
other_sound k v =
    if_sound (str_eq_ignore_ascii_case (codes "apt") k) (word_param Apt (byte_value v)) _
    (word_sound Apt (byte_value v) (any_number (byte_value v)))
    (if_sound ((str_eq_ignore_ascii_case (codes "crc") k || str_eq_ignore_ascii_case (codes "robust-sorting") k)
    && bytes_eq v (codes "1")) AmrWbUnsupported _ tt
    (if_sound (str_eq_ignore_ascii_case (codes "mode-change-period") k && bytes_eq v (codes "2")) AmrWbUnsupported _ tt
    (if_sound (str_eq_ignore_ascii_case (codes "interleaving") k) AmrWbUnsupported Unknown tt tt)))

named_sound : (o : Option Key) (k v : List ℕ) → IsSoundParam (named_param o k v)
named_sound (Some known) k v = value_sound known v
named_sound None k v = other_sound k v

param_sound : (k v : List ℕ) → IsSoundParam (param_of k v)
param_sound k v = named_sound (key_named k) k v

each_pair : (ps : List Pair) → IsEach IsSoundParam (map pair_param ps)
each_pair [] = tt
each_pair (p ∷ ps) = (param_sound p.key p.value, each_pair ps)

pub each_append : {A : Type 0} (P : A → Type 0) (xs ys : List A) → IsEach P xs → IsEach P ys → IsEach P (xs ++ ys)
each_append P [] ys h k = k
each_append P (x ∷ xs) ys h k = (h.0, each_append P xs ys h.1 k)

onto_sound : (b : Bool) (p : FormatParam) (others : List FormatParam) → IsSoundParam p → IsEach IsSoundParam others
    → IsEach IsSoundParam (if b then others else p ∷ others)
onto_sound true p others h k = k
onto_sound false p others h k = (h, k)

others_sound : (es : Entries) → IsEach IsSoundParam (others_of es)
others_sound [] = tt
others_sound (e ∷ es) =
    onto_sound (is_level_name e.0) (param_of e.0 e.1) (others_of es) (param_sound e.0 e.1) (others_sound es)

second_sound : (b : Option Level266) → IsEach IsSoundParam (level_266 b)
second_sound None = tt
second_sound (Some x) = (tt, tt)

level_sound : (a : Option Level265) (b : Option Level266) → IsEach IsSoundParam (level_param a b)
level_sound (Some x) b = (tt, tt)
level_sound None b = second_sound b

levels_sound : (id tier level : Option (List ℕ)) → IsEach IsSoundParam (levels_of id tier level)
levels_sound id tier level = level_sound (given_265 id tier level) (given_266 id tier level)

pub params_sound : (ps : List Pair) → IsEach IsSoundParam (params_of ps)
params_sound ps = at (list_any gives_level ps)
  where
    at : (b : Bool) → IsEach IsSoundParam (if b then level_params ps else map pair_param ps)
    at true = each_append IsSoundParam _ (others_of (with_pairs [] ps))
        (levels_sound (last_value (codes "profile-id") None ps) (last_value (codes "tier-flag") None ps)
        (last_value (codes "level-id") None ps))
        (others_sound (with_pairs [] ps))
    at false = each_pair ps
