-- The numbers of a format that a line gives are of their widths, and it gives one profile, tier and level at most.
use Rattle.std.proofs.Common.{◌≡◌, ◌<◌, ◌≤◌, ◌^◌, ℕ, Bool, true, false, ◌&&◌, ◌==◌, cond, nat_lt, nat_le, List, [], ◌∷◌}
use Rattle.std.proofs.Common.{Option, Some, None, IfSome, refl, arith, lit<, option_and_then}
use Rattle.std.specs.Char.{is_ascii_digit}
use Rattle.std.specs.List.{list_all, list_any}
use Rattle.std.specs.Prelude.{bit_or, length}
use Rattle.std.specs.Str.{trim}
use Rattle.std.specs.Str.Parse.{without_leading_plus, digits_value}
use Rattle.std.proofs.lemmas.Bool.Decides.{nat_tests}
use Rattle.std.proofs.lemmas.Nat.{or_lt, le_or_r, pow_below, pow_pos}
use Rattle.media_types.specs.H265ProfileTierLevel.{H265ProfileTierLevel as Level265}
use Rattle.media_types.specs.H266ProfileTierLevel.{H266ProfileTierLevel as Level266}
use Rattle.media_types.specs.H265ProfileTierLevel.{given as given_265}
use Rattle.media_types.specs.H266ProfileTierLevel.{given as given_266}
use Rattle.sdp_formats_grammar.specs.Split.{parts, onto_first}
use Rattle.sdp_formats_values.specs.Keys.{key_named}
use Rattle.sdp_formats_values.specs.Numbers.{are_digits, numeral_below, or_else, up_to, with_mode, with_modes}
use Rattle.sdp_formats_values.specs.Numbers.{modes_of, behind, range_end, range_of}
use Rattle.sdp_formats_values.specs.declared.key.Key.{Key}
use Rattle.sdp_formats_values.specs.declared.key.Key.TheVariants as key
use Rattle.sdp_formats_rows.specs.Formats.{no_format, replaced, with_value, with_key, with_range, with_fields}
use Rattle.sdp_formats_rows.specs.Formats.{with_parts}
use Rattle.sdp_formats_rows.specs.Formats.{with_level, with_values, level_format, format_of}
use Rattle.sdp_formats_rows.specs.LineValues.{gives_level, last_value}
use Rattle.sdp_formats_rows.specs.declared.format.FormatParams.{FormatParams}
use Rattle.sdp_formats_rounds.specs.Ranges.{IsModes, IsInRange, AtMostOne}

-- a number that was read is below its limit
by_test : (n limit : ℕ) (b : Bool) → nat_lt n limit ≡ b → IfSome (cond b (Some n) None) (λ m. m < limit)
by_test n limit true e = grind (arith, nat_tests)
by_test n limit false e = tt

pub cond_in : (b : Bool) (n limit : ℕ) → IfSome (cond (b && nat_lt n limit) (Some n) None) (λ m. m < limit)
cond_in true n limit = by_test n limit (nat_lt n limit) refl
cond_in false n limit = tt

pub number_in : (limit radix : ℕ) (text : List ℕ) → IfSome (numeral_below limit radix text) (λ m. m < limit)
number_in limit radix text =
    cond_in (nat_lt 0 (length (without_leading_plus text)) && are_digits radix (without_leading_plus text))
    (digits_value radix (without_leading_plus text)) limit

level_in : (a b : Option ℕ) → IfSome a (λ m. m < 2 ^ 32) → IfSome b (λ m. m < 2 ^ 32)
    → IfSome (or_else a b) (λ m. m < 2 ^ 32)
level_in (Some n) b h k = h
level_in None b h k = k

up_test : (n most : ℕ) (b : Bool) → nat_le n most ≡ b → IfSome (cond b (Some n) None) (λ m. m ≤ most)
up_test n most true e = grind (arith, nat_tests)
up_test n most false e = tt

pub up_in : (most : ℕ) (o : Option ℕ) → IfSome (up_to most o) (λ m. m ≤ most)
up_in most (Some n) = up_test n most (nat_le n most) refl
up_in most None = tt

power_small : (mode : ℕ) → mode ≤ 8 → 2 ^ mode < 2 ^ 9
power_small mode h = pow_below mode 9 (omega arith)

power_some : (mode modes : ℕ) → mode ≤ 8 → 0 < bit_or modes (2 ^ mode)
power_some mode modes h = omega (le_or_r modes (2 ^ mode), pow_pos mode, arith)

mode_test : (mode modes : ℕ) (b : Bool) → nat_le mode 8 ≡ b → modes < 2 ^ 9
    → IfSome (cond b (Some (bit_or modes (2 ^ mode))) None) IsModes
mode_test mode modes true e h =
    let small : mode ≤ 8 = grind (arith, nat_tests) in
    (power_some mode modes small, or_lt 9 modes (2 ^ mode) h (power_small mode small))
mode_test mode modes false e h = tt

mode_in : (o : Option ℕ) (modes : ℕ) → modes < 2 ^ 9 → IfSome (with_mode o modes) IsModes
mode_in None modes h = tt
mode_in (Some mode) modes h = mode_test mode modes (nat_le mode 8) refl h

more_in : (texts : List (List ℕ)) (o : Option ℕ) → IfSome o IsModes → IfSome (with_modes texts o) IsModes
more_in [] None h = tt
more_in [] (Some m) h = h
more_in (text ∷ texts) None h = tt
more_in (text ∷ texts) (Some m) h =
    more_in texts (with_mode (numeral_below (2 ^ 8) 10 (trim text)) m) (mode_in (numeral_below (2 ^ 8) 10
    (trim text)) m h.1)

first_in : (texts : List (List ℕ)) → (texts ≡ [] → ⊥) → IfSome (with_modes texts (Some 0)) IsModes
first_in [] h = absurd (h refl)
first_in (text ∷ texts) h =
    more_in texts (with_mode (numeral_below (2 ^ 8) 10 (trim text)) 0) (mode_in (numeral_below (2 ^ 8) 10
    (trim text)) 0 (lit< tt))

pub split_some : (c : ℕ) (text : List ℕ) → parts c text ≡ [] → ⊥
split_some c [] e = cc
split_some c (b ∷ text) e = by_byte (b == c) (parts c text) e
  where
    by_byte : (x : Bool) (pieces : List (List ℕ)) → cond x ([] ∷ pieces) (onto_first b pieces) ≡ [] → ⊥
    by_byte true pieces e = cc
    by_byte false [] e = cc
    by_byte false (piece ∷ pieces) e = cc

pub modes_in : (text : List ℕ) → IfSome (modes_of text) IsModes
modes_in text = first_in (parts 44 text) (split_some 44 text)

-- a later value
replaced_in : (P : ℕ → Type 0) (last : Bool) (before value : Option ℕ) → IfSome before P → IfSome value P
    → IfSome (replaced last before value) P
replaced_in P last before (Some n) h k = k
replaced_in P true before None h k = tt
replaced_in P false before None h k = h

range_in : (o : Option (List ℕ)) → IfSome (range_end o) (λ m. m < 2 ^ 8)
range_in None = tt
range_in (Some digits) = by_digits (list_all is_ascii_digit digits)
  where
    by_digits : (b : Bool) → IfSome (cond b (numeral_below (2 ^ 8) 10 digits) None) (λ m. m < 2 ^ 8)
    by_digits true = number_in (2 ^ 8) 10 digits
    by_digits false = tt

-- if a tier or level is given, there is no `profile-id` beside it
abbrev pub Apart : Bool → FormatParams → Type 0
Apart true f = (f.profile_id ≡ None) × AtMostOne f.h265_profile_tier_level f.h266_profile_tier_level
Apart false f = (f.h265_profile_tier_level ≡ None) × (f.h266_profile_tier_level ≡ None)

abbrev pub Held : Bool → FormatParams → Type 0
Held last f = IsInRange f × Apart last f

value_held : (last : Bool) (k : Key) (value : List ℕ) (f : FormatParams) → Held last f
    → Held last (with_value last k value f)
value_held true key.MinPTime value f h = (
  (
    replaced_in (λ m. m < 2 ^ 8) true f.min_p_time _ h.0.0 (number_in (2 ^ 8) 10 value),
    h.0.1,
    h.0.2,
    h.0.3,
    h.0.4,
    h.0.5,
    h.0.6,
    h.0.7,
    h.0.8,
    h.0.9,
  ),
  h.1,
)
value_held true key.Stereo value f h = h
value_held true key.SpropStereo value f h = h
value_held true key.UseInbandFec value f h = h
value_held true key.UseDtx value f h = h
value_held true key.LevelAsymmetryAllowed value f h = h
value_held true key.PacketizationMode value f h = (
  (
    h.0.0,
    replaced_in (λ m. m < 2 ^ 8) true f.packetization_mode _ h.0.1 (number_in (2 ^ 8) 10 value),
    h.0.2,
    h.0.3,
    h.0.4,
    h.0.5,
    h.0.6,
    h.0.7,
    h.0.8,
    h.0.9,
  ),
  h.1,
)
value_held true key.ProfileLevelId value f h = (
  (
    h.0.0,
    h.0.1,
    replaced_in (λ m. m < 2 ^ 32) true f.profile_level_id _ h.0.2 (level_in _ _ (number_in (2 ^ 32) 16 value)
        (number_in (2 ^ 32) 10 value)),
    h.0.3,
    h.0.4,
    h.0.5,
    h.0.6,
    h.0.7,
    h.0.8,
    h.0.9,
  ),
  h.1,
)
value_held true key.ProfileId value f h = h
value_held true key.Profile value f h = (
  (
    h.0.0,
    h.0.1,
    h.0.2,
    h.0.3,
    replaced_in (λ m. m < 2 ^ 8) true f.profile _ h.0.4 (number_in (2 ^ 8) 10 value),
    h.0.5,
    h.0.6,
    h.0.7,
    h.0.8,
    h.0.9,
  ),
  h.1,
)
value_held true key.LevelIdx value f h = (
  (
    h.0.0,
    h.0.1,
    h.0.2,
    h.0.3,
    h.0.4,
    replaced_in (λ m. m < 2 ^ 8) true f.level_idx _ h.0.5 (number_in (2 ^ 8) 10 value),
    h.0.6,
    h.0.7,
    h.0.8,
    h.0.9,
  ),
  h.1,
)
value_held true key.Tier value f h = (
  (
    h.0.0,
    h.0.1,
    h.0.2,
    h.0.3,
    h.0.4,
    h.0.5,
    replaced_in (λ m. m < 2 ^ 8) true f.tier _ h.0.6 (number_in (2 ^ 8) 10 value),
    h.0.7,
    h.0.8,
    h.0.9,
  ),
  h.1,
)
value_held true key.SpropMaxDonDiff value f h = (
  (
    h.0.0,
    h.0.1,
    h.0.2,
    h.0.3,
    h.0.4,
    h.0.5,
    h.0.6,
    replaced_in (λ m. m ≤ 32767) true f.sprop_max_don_diff _ h.0.7 (up_in 32767 (numeral_below (2 ^ 16) 10 value)),
    h.0.8,
    h.0.9,
  ),
  h.1,
)
value_held true key.OctetAlign value f h = h
value_held true key.ModeSet value f h = (
  (
    h.0.0,
    h.0.1,
    h.0.2,
    h.0.3,
    h.0.4,
    h.0.5,
    h.0.6,
    h.0.7,
    h.0.8,
    replaced_in IsModes true f.mode_set _ h.0.9 (modes_in value),
  ),
  h.1,
)
value_held true key.TierFlag value f h = h
value_held true key.LevelId value f h = h
value_held false key.MinPTime value f h = (
  (
    replaced_in (λ m. m < 2 ^ 8) false f.min_p_time _ h.0.0 (number_in (2 ^ 8) 10 value),
    h.0.1,
    h.0.2,
    h.0.3,
    h.0.4,
    h.0.5,
    h.0.6,
    h.0.7,
    h.0.8,
    h.0.9,
  ),
  h.1,
)
value_held false key.Stereo value f h = h
value_held false key.SpropStereo value f h = h
value_held false key.UseInbandFec value f h = h
value_held false key.UseDtx value f h = h
value_held false key.LevelAsymmetryAllowed value f h = h
value_held false key.PacketizationMode value f h = (
  (
    h.0.0,
    replaced_in (λ m. m < 2 ^ 8) false f.packetization_mode _ h.0.1 (number_in (2 ^ 8) 10 value),
    h.0.2,
    h.0.3,
    h.0.4,
    h.0.5,
    h.0.6,
    h.0.7,
    h.0.8,
    h.0.9,
  ),
  h.1,
)
value_held false key.ProfileLevelId value f h = (
  (
    h.0.0,
    h.0.1,
    replaced_in (λ m. m < 2 ^ 32) false f.profile_level_id _ h.0.2 (level_in _ _ (number_in (2 ^ 32) 16 value)
        (number_in (2 ^ 32) 10 value)),
    h.0.3,
    h.0.4,
    h.0.5,
    h.0.6,
    h.0.7,
    h.0.8,
    h.0.9,
  ),
  h.1,
)
value_held false key.ProfileId value f h = (
  (
    h.0.0,
    h.0.1,
    h.0.2,
    replaced_in (λ m. m < 2 ^ 32) false f.profile_id _ h.0.3 (number_in (2 ^ 32) 10 value),
    h.0.4,
    h.0.5,
    h.0.6,
    h.0.7,
    h.0.8,
    h.0.9,
  ),
  h.1,
)
value_held false key.Profile value f h = (
  (
    h.0.0,
    h.0.1,
    h.0.2,
    h.0.3,
    replaced_in (λ m. m < 2 ^ 8) false f.profile _ h.0.4 (number_in (2 ^ 8) 10 value),
    h.0.5,
    h.0.6,
    h.0.7,
    h.0.8,
    h.0.9,
  ),
  h.1,
)
value_held false key.LevelIdx value f h = (
  (
    h.0.0,
    h.0.1,
    h.0.2,
    h.0.3,
    h.0.4,
    replaced_in (λ m. m < 2 ^ 8) false f.level_idx _ h.0.5 (number_in (2 ^ 8) 10 value),
    h.0.6,
    h.0.7,
    h.0.8,
    h.0.9,
  ),
  h.1,
)
value_held false key.Tier value f h = (
  (
    h.0.0,
    h.0.1,
    h.0.2,
    h.0.3,
    h.0.4,
    h.0.5,
    replaced_in (λ m. m < 2 ^ 8) false f.tier _ h.0.6 (number_in (2 ^ 8) 10 value),
    h.0.7,
    h.0.8,
    h.0.9,
  ),
  h.1,
)
value_held false key.SpropMaxDonDiff value f h = (
  (
    h.0.0,
    h.0.1,
    h.0.2,
    h.0.3,
    h.0.4,
    h.0.5,
    h.0.6,
    replaced_in (λ m. m ≤ 32767) false f.sprop_max_don_diff _ h.0.7 (up_in 32767 (numeral_below (2 ^ 16) 10 value)),
    h.0.8,
    h.0.9,
  ),
  h.1,
)
value_held false key.OctetAlign value f h = h
value_held false key.ModeSet value f h = (
  (
    h.0.0,
    h.0.1,
    h.0.2,
    h.0.3,
    h.0.4,
    h.0.5,
    h.0.6,
    h.0.7,
    h.0.8,
    replaced_in IsModes false f.mode_set _ h.0.9 (modes_in value),
  ),
  h.1,
)
value_held false key.TierFlag value f h = h
value_held false key.LevelId value f h = h

key_held : (last : Bool) (k : Option Key) (value : List ℕ) (f : FormatParams) → Held last f
    → Held last (with_key last k value f)
key_held last None value f h = h
key_held last (Some k) value f h = value_held last k value f h

events_held : (last : Bool) (o : Option ℕ) (f : FormatParams) → IfSome o (λ m. m < 2 ^ 8) → Held last f
    → Held last (with_range o f)
events_held last None f k h = h
events_held true (Some n) f k h = ((h.0.0, h.0.1, h.0.2, h.0.3, h.0.4, h.0.5, h.0.6, h.0.7, k, h.0.9), h.1)
events_held false (Some n) f k h = ((h.0.0, h.0.1, h.0.2, h.0.3, h.0.4, h.0.5, h.0.6, h.0.7, k, h.0.9), h.1)

fields_held : (last : Bool) (fields : List (List ℕ)) (f : FormatParams) → Held last f
    → Held last (with_fields last fields f)
fields_held last [] f h = h
fields_held last (word ∷ []) f h =
    events_held last (range_of (trim word)) f (range_in (option_and_then (behind 45) (behind 48 (trim word)))) h
fields_held last (k ∷ value ∷ others) f h = key_held last (key_named (trim k)) (trim value) f h

parts_held : (last : Bool) (ps : List (List ℕ)) (f : FormatParams) → Held last f → Held last (with_parts last ps f)
parts_held last [] f h = h
parts_held last (part ∷ rest) f h =
    parts_held last rest (with_fields last (parts 61 part) f) (fields_held last (parts 61 part) f h)

-- a profile, tier and level alone
level_held : (a : Option Level265) (b : Option Level266) → Held true (with_level a b)
level_held (Some v) b = ((tt, tt, tt, tt, tt, tt, tt, tt, tt, tt), (refl, tt))
level_held None None = ((tt, tt, tt, tt, tt, tt, tt, tt, tt, tt), (refl, tt))
level_held None (Some v) = ((tt, tt, tt, tt, tt, tt, tt, tt, tt, tt), (refl, tt))

begin_held : (b : Bool) (id tier level : Option (List ℕ)) → Held b (cond b (with_values id tier level) no_format)
begin_held true id tier level = level_held (given_265 id tier level) (given_266 id tier level)
begin_held false id tier level = ((tt, tt, tt, tt, tt, tt, tt, tt, tt, tt), (refl, refl))

pub format_held : (line : List ℕ) → (last : Bool) × Held last (format_of line)
unfolding format_of
format_held line =
    let ps = parts 59 line in
    let last = list_any gives_level ps in (
      last,
      parts_held last ps (level_format ps) (begin_held last (last_value key.ProfileId ps None)
          (last_value key.TierFlag ps None) (last_value key.LevelId ps None)),
    )
