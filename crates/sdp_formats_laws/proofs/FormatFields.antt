-- Parameters of a format, read one by one: each text is a key and a value, without blanks round them.
use Rattle.std.proofs.Common.{◌≡◌, ◌<◌, ◌^◌, ℕ, Bool, true, false, ◌&&◌, cond, List, [], ◌∷◌, ◌++◌}
use Rattle.std.proofs.Common.{codes, decimal, Option, Some, None, refl, ◌∙◌, ap, arith, lit<, lit≤}
use Rattle.std.specs.Str.{trim}
use Rattle.std.proofs.lemmas.Fmt.{decimal_is_IsNumeral}
use Rattle.sdp_formats_grammar.specs.Cuts.{parts-at, parts-whole}
use Rattle.sdp_formats_grammar.specs.Split.{Lacks, parts}
use Rattle.sdp_formats_rows.specs.Formats.{replaced, with_fields}
use Rattle.sdp_formats_rows.specs.LineValues.{field_value, gives_level, has_level, is_key}
use Rattle.sdp_formats_rows.specs.Formats.{with_key, with_range}
use Rattle.sdp_formats_rows.specs.declared.format.FormatParams.{FormatParams}
use Rattle.sdp_formats_values.specs.Keys.{key_named, is_name_of}
use Rattle.sdp_formats_values.specs.Numbers.{numeral_below, range_of}
use Rattle.sdp_formats_values.specs.PrintedParameters.{flag_digit, pair_text, param_text, six_digits}
use Rattle.sdp_formats_values.specs.declared.key.Key.{Key}
use Rattle.sdp_formats_values.specs.declared.key.Key.TheVariants as key
use Rattle.sdp_formats_values.specs.declared.pairs.Pair.{Pair}
use Rattle.sdp_formats_values.specs.declared.param.FormatParam.{FormatParam}
use Rattle.sdp_formats_values.specs.declared.param.FormatParam.TheVariants as param
use Rattle.sdp_formats_rows.specs.OneParam.{with_codec_param}
use Rattle.sdp_formats_laws.proofs.KeyedParams.{byte_back, don_back, flag_back, key_is, level_back, value_is}
use Rattle.sdp_formats_laws.proofs.ModeSets.{modes_back, modes_graphic}
use Rattle.sdp_formats_laws.proofs.Numerals.{decimal_read, six_numeral}
use Rattle.sdp_formats_laws.proofs.OtherParams.{ascii_digits, lacks_of}
use Rattle.sdp_formats_laws.proofs.Printed.{lacks, lacks_byte}
use Rattle.sdp_formats_laws.proofs.Trimmed.{AreGraphic, digits_graphic, graphic, is_graphic, trim_same}
use Rattle.sdp_formats_laws.specs.Keyed.{IsKeyed, pair_of}

-- a key and a value as a part of a line
pub record IsField (q : Pair) : Type 0 where
  pub key_graphic : AreGraphic q.key
  pub value_graphic : AreGraphic q.value
  pub key_part : Lacks 59 q.key
  pub value_part : Lacks 59 q.value
  pub key_field : Lacks 61 q.key
  pub value_field : Lacks 61 q.value

two_fields : (q : Pair) → IsField q → parts 61 (pair_text q) ≡ q.key ∷ q.value ∷ []
two_fields q h =
    parts-at 61 q.key q.value h.key_field ∙ ap (λ l. q.key ∷ l) (parts-whole 61 q.value h.value_field)

pub field_read : (last : Bool) (q : Pair) (f : FormatParams) → IsField q
    → with_fields last (parts 61 (pair_text q)) f ≡ with_key last (key_named q.key) q.value f
field_read last q f h =
    ap (λ ps. with_fields last ps f) (two_fields q h)
    ∙ (λ i. with_key last (key_named (trim_same q.key h.key_graphic i)) (trim_same q.value h.value_graphic i) f)

pub field_level : (q : Pair) → IsField q → gives_level (pair_text q) ≡ has_level (key_named q.key)
field_level q h =
    ap (λ (ps : List (List ℕ)). elim ps [
      | [] ↦ false
      | key ∷ more ↦ elim more [
        | [] ↦ false
        | value ∷ others
            ↦ has_level (key_named (trim key))
      ]
    ]) (two_fields q h)
    ∙ ap (λ k. has_level (key_named k)) (trim_same q.key h.key_graphic)

pub field_named : (k : Key) (q : Pair) (before : Option (List ℕ)) → IsField q
    → field_value k (parts 61 (pair_text q)) before ≡ cond (is_key k (key_named q.key)) (Some q.value) before
field_named k q before h =
    ap (λ ps. field_value k ps before) (two_fields q h)
    ∙ (λ i. cond (is_key k (key_named (trim_same q.key h.key_graphic i)))
    (Some (trim_same q.value h.value_graphic i)) before)

-- keys and values of parameters
abbrev pub is_part_key : List ℕ → Bool
is_part_key t = is_graphic t && lacks_byte 59 t

two_true : (a b : Bool) → (a && b) ≡ true → (a ≡ true) × (b ≡ true)
two_true true b h = (refl, h)
two_true false b h = absurd (cc)

pub part_key : (t : List ℕ) → is_part_key t ≡ true → AreGraphic t × Lacks 59 t
part_key t h = let two = two_true (is_graphic t) (lacks_byte 59 t) h in (graphic t two.0, lacks 59 t two.1)

key_graphic : (p : FormatParam) → IsKeyed p → AreGraphic (pair_of p).key × Lacks 59 (pair_of p).key
key_graphic (param.MinPTime v) h = part_key (codes "minptime") refl
key_graphic (param.Stereo v) h = part_key (codes "stereo") refl
key_graphic (param.SpropStereo v) h = part_key (codes "sprop-stereo") refl
key_graphic (param.UseInbandFec v) h = part_key (codes "useinbandfec") refl
key_graphic (param.UseDtx v) h = part_key (codes "usedtx") refl
key_graphic (param.LevelAsymmetryAllowed v) h = part_key (codes "level-asymmetry-allowed") refl
key_graphic (param.PacketizationMode v) h = part_key (codes "packetization-mode") refl
key_graphic (param.ProfileLevelId v) h = part_key (codes "profile-level-id") refl
key_graphic (param.ProfileId v) h = part_key (codes "profile-id") refl
key_graphic (param.Profile v) h = part_key (codes "profile") refl
key_graphic (param.LevelIdx v) h = part_key (codes "level-idx") refl
key_graphic (param.Tier v) h = part_key (codes "tier") refl
key_graphic (param.SpropMaxDonDiff v) h = part_key (codes "sprop-max-don-diff") refl
key_graphic (param.OctetAlign v) h = part_key (codes "octet-align") refl
key_graphic (param.ModeSet v) h = part_key (codes "mode-set") refl
key_graphic (param.Apt v) h = part_key (codes "apt") refl
key_graphic _ h = absurd h

pub decimal_graphic : (n : ℕ) → n < 2 ^ 64 → AreGraphic (decimal n)
decimal_graphic n small = digits_graphic 10 (decimal n) (lit≤ tt) (decimal_is_IsNumeral n small).0.1

six_graphic : (v : ℕ) → v < 2 ^ 32 → AreGraphic (six_digits v)
six_graphic v small = digits_graphic 16 (six_digits v) (lit≤ tt) (six_numeral v small).0.1

flag_graphic : (b : Bool) → AreGraphic (decimal (flag_digit b))
flag_graphic true = decimal_graphic 1 (lit< tt)
flag_graphic false = decimal_graphic 0 (lit< tt)

value_graphic : (p : FormatParam) → IsKeyed p → AreGraphic (pair_of p).value
value_graphic (param.MinPTime v) h = decimal_graphic v (omega (h, arith))
value_graphic (param.Stereo v) h = flag_graphic v
value_graphic (param.SpropStereo v) h = flag_graphic v
value_graphic (param.UseInbandFec v) h = flag_graphic v
value_graphic (param.UseDtx v) h = flag_graphic v
value_graphic (param.LevelAsymmetryAllowed v) h = flag_graphic v
value_graphic (param.PacketizationMode v) h = decimal_graphic v (omega (h, arith))
value_graphic (param.ProfileLevelId v) h = six_graphic v h
value_graphic (param.ProfileId v) h = decimal_graphic v (omega (h, arith))
value_graphic (param.Profile v) h = decimal_graphic v (omega (h, arith))
value_graphic (param.LevelIdx v) h = decimal_graphic v (omega (h, arith))
value_graphic (param.Tier v) h = decimal_graphic v (omega (h, arith))
value_graphic (param.SpropMaxDonDiff v) h = decimal_graphic v (omega (h, arith))
value_graphic (param.OctetAlign v) h = flag_graphic v
value_graphic (param.ModeSet v) h = modes_graphic v h
value_graphic (param.Apt v) h = decimal_graphic v (omega (h, arith))
value_graphic _ h = absurd h

pub keyed_field : (p : FormatParam) → IsKeyed p → IsField (pair_of p)
keyed_field p h = record {
  key_graphic = (key_graphic p h).0;
  value_graphic = value_graphic p h;
  key_part = (key_graphic p h).1;
  value_part = (value_is p h).0.2;
  key_field = (key_is p h).0.2;
  value_field = (value_is p h).3;
}

-- one parameter of a line, if the last of each key alone counts or each in turn: `profile-id` only in the latter
abbrev pub IsPart : Bool → FormatParam → Type 0
IsPart last (param.TelephoneEvents v) = v < 2 ^ 8
IsPart last (param.ProfileId v) = (v < 2 ^ 32) × (last ≡ false)
IsPart last (param.Apt v) = ⊥
IsPart last p = IsKeyed p

abbrev pub with_part : FormatParams → FormatParam → FormatParams
with_part f (param.TelephoneEvents v) = record f { telephone_event_max = Some v }
with_part f p = with_codec_param f p

-- a range of events
range_value : (v : ℕ) → v < 2 ^ 8 → range_of (codes "0-" ++ decimal v) ≡ Some v
range_value v small =
    ap (λ b. cond b (numeral_below (2 ^ 8) 10 (decimal v)) None)
    (ascii_digits (decimal v) (decimal_is_IsNumeral v (omega (small, arith))).0.1) ∙ byte_back v small

pub range_field : (v : ℕ) → v < 2 ^ 8 → parts 61 (codes "0-" ++ decimal v) ≡ (codes "0-" ++ decimal v) ∷ []
range_field v small = parts-whole 61 (codes "0-" ++ decimal v) ((λ e. cc), ((λ e. cc), lacks_of 61 v (lit≤ tt) small))

range_graphic : (v : ℕ) → v < 2 ^ 8 → AreGraphic (codes "0-" ++ decimal v)
range_graphic v small = (lit< tt, lit< tt, (lit< tt, lit< tt, decimal_graphic v (omega (small, arith))))

range_read : (last : Bool) (v : ℕ) (f : FormatParams) → v < 2 ^ 8
    → with_fields last (parts 61 (codes "0-" ++ decimal v)) f ≡ record f { telephone_event_max = Some v }
range_read last v f small =
    ap (λ ps. with_fields last ps f) (range_field v small)
    ∙ ap (λ t. with_range (range_of t) f) (trim_same (codes "0-" ++ decimal v) (range_graphic v small))
    ∙ ap (λ o. with_range o f) (range_value v small)

profile_value : (last : Bool) (v : ℕ) (f : FormatParams) → last ≡ false → v < 2 ^ 32
    → with_key last (Some key.ProfileId) (decimal v) f ≡ record f { profile_id = Some v }
profile_value true v f e h = absurd (cc)
profile_value false v f e h =
    ap (λ o. record f { profile_id = replaced false f.profile_id o }) (decimal_read (2 ^ 32) v h (lit≤ tt))

pub part_read : (last : Bool) (p : FormatParam) (f : FormatParams) → IsPart last p
    → with_fields last (parts 61 (param_text p)) f ≡ with_part f p
unfolding param_text key_named is_name_of
part_read last (param.MinPTime v) f h =
    field_read last (pair_of (param.MinPTime v)) f (keyed_field (param.MinPTime v) h)
    ∙ ap (λ o. record f { min_p_time = replaced last f.min_p_time o }) (byte_back v h)
part_read last (param.Stereo v) f h =
    field_read last (pair_of (param.Stereo v)) f (keyed_field (param.Stereo v) tt)
    ∙ ap (λ b. record f { stereo = Some b }) (flag_back v)
part_read last (param.SpropStereo v) f h =
    field_read last (pair_of (param.SpropStereo v)) f (keyed_field (param.SpropStereo v) tt)
    ∙ ap (λ b. record f { sprop_stereo = Some b }) (flag_back v)
part_read last (param.UseInbandFec v) f h =
    field_read last (pair_of (param.UseInbandFec v)) f (keyed_field (param.UseInbandFec v) tt)
    ∙ ap (λ b. record f { use_inband_fec = Some b }) (flag_back v)
part_read last (param.UseDtx v) f h =
    field_read last (pair_of (param.UseDtx v)) f (keyed_field (param.UseDtx v) tt)
    ∙ ap (λ b. record f { use_dtx = Some b }) (flag_back v)
part_read last (param.LevelAsymmetryAllowed v) f h =
    field_read last (pair_of (param.LevelAsymmetryAllowed v)) f (keyed_field (param.LevelAsymmetryAllowed v) tt)
    ∙ ap (λ b. record f { level_asymmetry_allowed = Some b }) (flag_back v)
part_read last (param.PacketizationMode v) f h =
    field_read last (pair_of (param.PacketizationMode v)) f (keyed_field (param.PacketizationMode v) h)
    ∙ ap (λ o. record f { packetization_mode = replaced last f.packetization_mode o }) (byte_back v h)
part_read last (param.ProfileLevelId v) f h =
    field_read last (pair_of (param.ProfileLevelId v)) f (keyed_field (param.ProfileLevelId v) h)
    ∙ ap (λ o. record f { profile_level_id = replaced last f.profile_level_id o }) (level_back v h)
part_read last (param.ProfileId v) f h =
    field_read last (pair_of (param.ProfileId v)) f (keyed_field (param.ProfileId v) h.0)
    ∙ profile_value last v f h.1 h.0
part_read last (param.Profile v) f h =
    field_read last (pair_of (param.Profile v)) f (keyed_field (param.Profile v) h)
    ∙ ap (λ o. record f { profile = replaced last f.profile o }) (byte_back v h)
part_read last (param.LevelIdx v) f h =
    field_read last (pair_of (param.LevelIdx v)) f (keyed_field (param.LevelIdx v) h)
    ∙ ap (λ o. record f { level_idx = replaced last f.level_idx o }) (byte_back v h)
part_read last (param.Tier v) f h =
    field_read last (pair_of (param.Tier v)) f (keyed_field (param.Tier v) h)
    ∙ ap (λ o. record f { tier = replaced last f.tier o }) (byte_back v h)
part_read last (param.SpropMaxDonDiff v) f h =
    field_read last (pair_of (param.SpropMaxDonDiff v)) f (keyed_field (param.SpropMaxDonDiff v) h)
    ∙ ap (λ o. record f { sprop_max_don_diff = replaced last f.sprop_max_don_diff o }) (don_back v h)
part_read last (param.OctetAlign v) f h =
    field_read last (pair_of (param.OctetAlign v)) f (keyed_field (param.OctetAlign v) tt)
    ∙ ap (λ b. record f { octet_align = Some b }) (flag_back v)
part_read last (param.ModeSet v) f h =
    field_read last (pair_of (param.ModeSet v)) f (keyed_field (param.ModeSet v) h)
    ∙ ap (λ o. record f { mode_set = replaced last f.mode_set o }) ((modes_back v h).0)
part_read last (param.TelephoneEvents v) f h = range_read last v f h
part_read last _ f h = absurd h
