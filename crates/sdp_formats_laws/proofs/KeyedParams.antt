-- A parameter is read of its pair.
use Rattle.std.proofs.Common.{◌≡◌, ◌<◌, ◌≤◌, ◌^◌, ℕ, Bool, true, false, cond, nat_le, nat_lt, not, ◌&&◌, ◌==◌, ◌≢◌}
use Rattle.std.proofs.Common.{List, [], ◌∷◌, codes, decimal}
use Rattle.std.proofs.Common.{None, Some, refl, ◌∙◌, ap, arith, lit<, lit≤}
use Rattle.std.specs.Fmt.{digits}
use Rattle.std.proofs.lemmas.Bool.Decides.{nat_tests}
use Rattle.sdp_formats_grammar.specs.Split.{Lacks}
use Rattle.sdp_formats_reader.specs.PairLemmas.{lacks-word}
use Rattle.sdp_formats_reader.specs.PairsSay.{IsWord}
use Rattle.sdp_formats_values.specs.Keys.{key_named, is_name_of}
use Rattle.sdp_formats_values.specs.Numbers.{numeral_below, or_else, profile_level, up_to}
use Rattle.sdp_formats_values.specs.Params.{byte_param, flag, gives_level, pair_param, word_param}
use Rattle.sdp_formats_values.specs.PrintedParameters.{flag_digit, pair_text, param_text, six_digits}
use Rattle.sdp_formats_values.specs.declared.key.Key.TheVariants as key
use Rattle.sdp_formats_values.specs.declared.param.FormatParam.{FormatParam}
use Rattle.sdp_formats_values.specs.declared.param.FormatParam.TheVariants as param
use Rattle.sdp_formats_laws.proofs.ModeSets.{modes_back}
use Rattle.sdp_formats_laws.proofs.Numerals.{IsValue, decimal_read, decimal_value, six_read, six_value}
use Rattle.sdp_formats_laws.specs.Keyed.{IsKeyed, pair_of}

pub text_is : (p : FormatParam) → IsKeyed p → param_text p ≡ pair_text (pair_of p)
unfolding param_text
text_is (param.H265ProfileTierLevel v) h = absurd h
text_is (param.H266ProfileTierLevel v) h = absurd h
text_is (param.TelephoneEvents v) h = absurd h
text_is (param.BareRange v) h = absurd h
text_is (param.BarePtList v) h = absurd h
text_is param.AmrWbUnsupported h = absurd h
text_is (param.Red v) h = absurd h
text_is param.Unknown h = absurd h
text_is _ h = refl

-- a flag is 1 or 0
pub flag_back : (b : Bool) → flag (decimal (flag_digit b)) ≡ b
unfolding digits
flag_back true = refl
flag_back false = refl

pub byte_back : (v : ℕ) → v < 2 ^ 8 → numeral_below (2 ^ 8) 10 (decimal v) ≡ Some v
byte_back v h = decimal_read (2 ^ 8) v h (lit≤ tt)

within : (n most : ℕ) → n ≤ most → cond (nat_le n most) (Some n) None ≡ Some n
within n most h = grind (arith, nat_tests)

pub don_back : (v : ℕ) → v ≤ 32767 → up_to 32767 (numeral_below (2 ^ 16) 10 (decimal v)) ≡ Some v
don_back v h =
    ap (up_to 32767) (decimal_read (2 ^ 16) v (omega (h, arith)) (lit≤ tt)) ∙ within v 32767 h

pub level_back : (v : ℕ) → v < 2 ^ 32 → profile_level (six_digits v) ≡ Some v
level_back v h = ap (λ o. or_else o (numeral_below (2 ^ 32) 10 (six_digits v))) (six_read v h)

pub param_back : (p : FormatParam) → IsKeyed p → pair_param (pair_of p) ≡ p
unfolding key_named is_name_of
param_back (param.MinPTime v) h = ap (byte_param key.MinPTime) (byte_back v h)
param_back (param.Stereo v) h = ap param.Stereo (flag_back v)
param_back (param.SpropStereo v) h = ap param.SpropStereo (flag_back v)
param_back (param.UseInbandFec v) h = ap param.UseInbandFec (flag_back v)
param_back (param.UseDtx v) h = ap param.UseDtx (flag_back v)
param_back (param.LevelAsymmetryAllowed v) h = ap param.LevelAsymmetryAllowed (flag_back v)
param_back (param.PacketizationMode v) h = ap (byte_param key.PacketizationMode) (byte_back v h)
param_back (param.ProfileLevelId v) h = ap (word_param param.ProfileLevelId) (level_back v h)
param_back (param.ProfileId v) h = ap (word_param param.ProfileId) (decimal_read (2 ^ 32) v h (lit≤ tt))
param_back (param.Profile v) h = ap (byte_param key.Profile) (byte_back v h)
param_back (param.LevelIdx v) h = ap (byte_param key.LevelIdx) (byte_back v h)
param_back (param.Tier v) h = ap (byte_param key.Tier) (byte_back v h)
param_back (param.SpropMaxDonDiff v) h = ap (word_param param.SpropMaxDonDiff) (don_back v h)
param_back (param.OctetAlign v) h = ap param.OctetAlign (flag_back v)
param_back (param.ModeSet v) h = ap (word_param param.ModeSet) (modes_back v h).0
param_back (param.Apt v) h = ap (word_param param.Apt) (byte_back v h)
param_back _ h = absurd h

pub no_level : (p : FormatParam) → IsKeyed p → gives_level (pair_of p) ≡ false
unfolding key_named is_name_of
no_level (param.H265ProfileTierLevel v) h = absurd h
no_level (param.H266ProfileTierLevel v) h = absurd h
no_level (param.TelephoneEvents v) h = absurd h
no_level (param.BareRange v) h = absurd h
no_level (param.BarePtList v) h = absurd h
no_level param.AmrWbUnsupported h = absurd h
no_level (param.Red v) h = absurd h
no_level param.Unknown h = absurd h
no_level _ h = refl

flag_value : (b : Bool) → IsValue (decimal (flag_digit b))
flag_value true = decimal_value 1 (lit< tt)
flag_value false = decimal_value 0 (lit< tt)

pub value_is : (p : FormatParam) → IsKeyed p → IsValue (pair_of p).value
value_is (param.MinPTime v) h = decimal_value v (omega (h, arith))
value_is (param.Stereo v) h = flag_value v
value_is (param.SpropStereo v) h = flag_value v
value_is (param.UseInbandFec v) h = flag_value v
value_is (param.UseDtx v) h = flag_value v
value_is (param.LevelAsymmetryAllowed v) h = flag_value v
value_is (param.PacketizationMode v) h = decimal_value v (omega (h, arith))
value_is (param.ProfileLevelId v) h = six_value v h
value_is (param.ProfileId v) h = decimal_value v (omega (h, arith))
value_is (param.Profile v) h = decimal_value v (omega (h, arith))
value_is (param.LevelIdx v) h = decimal_value v (omega (h, arith))
value_is (param.Tier v) h = decimal_value v (omega (h, arith))
value_is (param.SpropMaxDonDiff v) h = decimal_value v (omega (h, arith))
value_is (param.OctetAlign v) h = flag_value v
value_is (param.ModeSet v) h = (modes_back v h).1
value_is (param.Apt v) h = decimal_value v (omega (h, arith))
value_is _ h = absurd h

-- a word in letters and dashes
abbrev pub is_plain_key : List ℕ → Bool
is_plain_key [] = true
is_plain_key (b ∷ t) = nat_lt 44 b && (not (b == 61) && is_plain_key t)

plain_two : (b : ℕ) (more : Bool) → (nat_lt 44 b && (not (b == 61) && more)) ≡ true
    → (44 < b) × (b ≢ 61) × (more ≡ true)
plain_two b more h = (grind (arith, nat_tests), (λ e. grind (arith, nat_tests)), grind (arith, nat_tests))

key_lacks : (c : ℕ) (t : List ℕ) → c < 45 → is_plain_key t ≡ true → Lacks c t
key_lacks c [] low h = tt
key_lacks c (b ∷ t) low h = let two = plain_two b (is_plain_key t) h in
    ((λ e. omega (e, two.0, low, arith)), key_lacks c t low two.2)

key_equals : (t : List ℕ) → is_plain_key t ≡ true → Lacks 61 t
key_equals [] h = tt
key_equals (b ∷ t) h = let two = plain_two b (is_plain_key t) h in (two.1, key_equals t two.2)

pub key_of : (t : List ℕ) → t ≢ [] → is_plain_key t ≡ true → IsWord 61 t × Lacks 10 t × Lacks 13 t
key_of t some h = (
  (some, lacks-word t (key_lacks 32 t (lit< tt) h) (key_lacks 9 t (lit< tt) h), key_equals t h),
  key_lacks 10 t (lit< tt) h,
  key_lacks 13 t (lit< tt) h,
)

abbrev pub IsKeyText : List ℕ → Type 0
IsKeyText t = IsWord 61 t × Lacks 10 t × Lacks 13 t

pub key_is : (p : FormatParam) → IsKeyed p → IsKeyText (pair_of p).key
key_is (param.MinPTime v) h = key_of (codes "minptime") (λ e. cc) refl
key_is (param.Stereo v) h = key_of (codes "stereo") (λ e. cc) refl
key_is (param.SpropStereo v) h = key_of (codes "sprop-stereo") (λ e. cc) refl
key_is (param.UseInbandFec v) h = key_of (codes "useinbandfec") (λ e. cc) refl
key_is (param.UseDtx v) h = key_of (codes "usedtx") (λ e. cc) refl
key_is (param.LevelAsymmetryAllowed v) h = key_of (codes "level-asymmetry-allowed") (λ e. cc) refl
key_is (param.PacketizationMode v) h = key_of (codes "packetization-mode") (λ e. cc) refl
key_is (param.ProfileLevelId v) h = key_of (codes "profile-level-id") (λ e. cc) refl
key_is (param.ProfileId v) h = key_of (codes "profile-id") (λ e. cc) refl
key_is (param.Profile v) h = key_of (codes "profile") (λ e. cc) refl
key_is (param.LevelIdx v) h = key_of (codes "level-idx") (λ e. cc) refl
key_is (param.Tier v) h = key_of (codes "tier") (λ e. cc) refl
key_is (param.SpropMaxDonDiff v) h = key_of (codes "sprop-max-don-diff") (λ e. cc) refl
key_is (param.OctetAlign v) h = key_of (codes "octet-align") (λ e. cc) refl
key_is (param.ModeSet v) h = key_of (codes "mode-set") (λ e. cc) refl
key_is (param.Apt v) h = key_of (codes "apt") (λ e. cc) refl
key_is _ h = absurd h
