-- The format parameters of a line, each by itself.
use Rattle.std.proofs.Common.{◌≡◌, ℕ, Bool, true, false, ◌||◌, ◌&&◌, List, [], ◌∷◌, Option, Some, None, filter_map}
use Rattle.std.proofs.Common.{codes, refl, sym, ◌∙◌, ap, subst, if◌then◌else◌, is_none, is_some}
use Rattle.std.proofs.Common.{option_and_then, option_map}
use Rattle.std.specs.List.{cons_option, last_or, list_any}
use Rattle.std.specs.Str.{bytes_eq, trim}
use Rattle.media_types.specs.H265ProfileTierLevel.{H265ProfileTierLevel as Level265, given as given_265}
use Rattle.media_types.specs.H266ProfileTierLevel.{H266ProfileTierLevel as Level266, given as given_266}
use Rattle.sdp_formats_rows.specs.Formats as format
use Rattle.sdp_formats_rows.specs.LineValues as keyed
use Rattle.sdp_formats_rows.specs.Formats.{format_of, no_format, replaced, with_level, word_value}
use Rattle.sdp_formats_rows.specs.declared.format.FormatParams.{FormatParams}
use Rattle.sdp_formats_grammar.specs.Split.{parts}
use Rattle.sdp_formats_values.specs.Keys.{is_name_of, key_named}
use Rattle.sdp_formats_values.specs.Numbers.{modes_of, profile_level}
use Rattle.sdp_formats_values.specs.Params.{byte_value}
use Rattle.sdp_formats_values.specs.declared.key.Key.{Key}
use Rattle.sdp_formats_values.specs.declared.key.Key.TheVariants as key
use Rattle.sdp_formats_laws.proofs.FormatKeys.{key_same, level_keys}
use Rattle.sdp_formats_laws.proofs.FormatSteps.{behind, flags, numbers, read_parts, values_of}
use Rattle.sdp_formats_laws.specs.FormatParts.{range_in, value_in, value_of_pieces}
use Rattle.sdp_formats_laws.specs.Formats.{AreGiven, FormatsAreOfLines, difference_value, has_level, last_value}
use Rattle.sdp_formats_laws.specs.Formats.{level_265, level_266, number_of}

-- numbers and flags
last_alone : (before o : Option ℕ) → replaced true before o ≡ o
last_alone before None = refl
last_alone before (Some n) = refl

numbers_alone : (read : List ℕ → Option ℕ) (before : Option (List ℕ)) (vs : List (List ℕ))
    → numbers true read (option_and_then read before) vs ≡ option_and_then read (last_or before vs)
numbers_alone read before [] = refl
numbers_alone read before (v ∷ vs) =
    ap (λ o. numbers true read o vs) (last_alone (option_and_then read before) (read v))
    ∙ numbers_alone read (Some v) vs

numbers_each : (read : List ℕ → Option ℕ) (given : List ℕ → Option (List ℕ)) (before : Option ℕ)
    (ps : List (List ℕ)) → numbers false read before (filter_map given ps)
    ≡ last_or before (filter_map (λ part. option_and_then read (given part)) ps)
numbers_each read given before [] = refl
numbers_each read given before (p ∷ ps) = at (given p) (λ b. numbers_each read given b ps)
  where
    later : List ℕ
    later = filter_map (λ part. option_and_then read (given part)) ps

    one : (o : Option ℕ) → last_or (replaced false before o) later ≡ last_or before (cons_option o later)
    one None = refl
    one (Some n) = refl

    at : (o : Option (List ℕ)) → ((b : Option ℕ) → numbers false read b (filter_map given ps) ≡ last_or b later)
        → numbers false read before (cons_option o (filter_map given ps))
        ≡ last_or before (cons_option (option_and_then read o) later)
    at None h = h before
    at (Some v) h = h (replaced false before (read v)) ∙ one (read v)

abbrev is_one : List ℕ → Bool
is_one value = bytes_eq value (codes "1")

flags_last : (before : Option (List ℕ)) (vs : List (List ℕ))
    → flags (option_map is_one before) vs ≡ option_map is_one (last_or before vs)
flags_last before [] = refl
flags_last before (v ∷ vs) = flags_last (Some v) vs

-- the last value of a key
piece_last : (k : Key) (pieces : List (List ℕ)) (before : Option (List ℕ)) (vs : List (List ℕ))
    → last_or (keyed.field_value k pieces before) vs ≡ last_or before (cons_option (value_of_pieces k pieces) vs)
piece_last k [] before vs = refl
piece_last k (word ∷ []) before vs = refl
piece_last k (name ∷ value ∷ others) before vs =
    ap (λ (b : Bool). last_or (if b then Some (trim value) else before) vs) (key_same k (trim name))
    ∙ at (is_name_of k (trim name))
  where
    at : (b : Bool) → last_or (if b then Some (trim value) else before) vs
        ≡ last_or before (cons_option (if b then Some (trim value) else None) vs)
    at true = refl
    at false = refl

values_last : (k : Key) (ps : List (List ℕ)) (before : Option (List ℕ))
    → keyed.last_value k ps before ≡ last_or before (values_of ps k)
values_last k [] before = refl
values_last k (p ∷ ps) before =
    values_last k ps (keyed.field_value k (parts 61 p) before)
    ∙ piece_last k (parts 61 p) before (values_of ps k)

-- whether a part gives a tier or level
some_if : (b : Bool) (v : List ℕ) → is_some (if b then Some v else None) ≡ b
some_if true v = refl
some_if false v = refl

level_piece : (pieces : List (List ℕ)) → keyed.fields_give_level pieces
    ≡ (is_some (value_of_pieces key.TierFlag pieces) || is_some (value_of_pieces key.LevelId pieces))
level_piece [] = refl
level_piece (word ∷ []) = refl
level_piece (name ∷ value ∷ others) =
    let text = trim name in
    level_keys (key_named text)
    ∙ (λ i. key_same key.TierFlag text i || key_same key.LevelId text i)
    ∙ (λ i. sym (some_if (is_name_of key.TierFlag text) (trim value)) i
    || sym (some_if (is_name_of key.LevelId text) (trim value)) i)

some_last : (v : List ℕ) (vs : List (List ℕ)) → is_some (last_or (Some v) vs) ≡ true
some_last v [] = refl
some_last v (w ∷ ws) = some_last w ws

or_true : (b : Bool) → (b || true) ≡ true
or_true true = refl
or_true false = refl

level_given : (ps : List (List ℕ)) → list_any keyed.gives_level ps
    ≡ (is_some (last_or None (values_of ps key.TierFlag)) || is_some (last_or None (values_of ps key.LevelId)))
level_given [] = refl
level_given (p ∷ ps) =
    ap (λ b. b || list_any keyed.gives_level ps) (level_piece (parts 61 p))
    ∙ at (value_in key.TierFlag p) (value_in key.LevelId p) (level_given ps)
  where
    tiers : List (List ℕ)
    tiers = values_of ps key.TierFlag

    levels : List (List ℕ)
    levels = values_of ps key.LevelId

    at : (t l : Option (List ℕ))
        → list_any keyed.gives_level ps ≡ (is_some (last_or None tiers) || is_some (last_or None levels))
        → ((is_some t || is_some l) || list_any keyed.gives_level ps)
        ≡ (is_some (last_or None (cons_option t tiers)) || is_some (last_or None (cons_option l levels)))
    at None None h = h
    at (Some v) l h =
        sym (ap (λ b. b || is_some (last_or None (cons_option l levels))) (some_last v tiers))
    at None (Some w) h = sym (
        ap (λ b. is_some (last_or None tiers) || b) (some_last w levels) ∙ or_true (is_some (last_or None tiers)))

-- a format with a profile, tier and level at most
abbrev leveled : Option Level265 → Option Level266 → FormatParams
leveled x y = record no_format { h265_profile_tier_level = x; h266_profile_tier_level = y }

one_level : (x : Option Level265) (y : Option Level266) → with_level x y ≡ leveled x (if is_none x then y else None)
one_level None y = refl
one_level (Some x) y = refl

module _ (line : List ℕ) where
  abbrev ps : List (List ℕ)
  ps = parts 59 line

  number_at : (b : Bool) → has_level line ≡ b → (read : List ℕ → Option ℕ) (k : Key)
      → numbers b read None (values_of ps k) ≡ number_of read k line
  number_at true e read k =
      numbers_alone read None (values_of ps k)
      ∙ sym (ap (λ (b : Bool). if b then option_and_then read (last_value k line)
      else last_or None (filter_map (λ part. option_and_then read (value_in k part)) ps)) e)
  number_at false e read k =
      numbers_each read (value_in k) None ps
      ∙ sym (ap (λ (b : Bool). if b then option_and_then read (last_value k line)
      else last_or None (filter_map (λ part. option_and_then read (value_in k part)) ps)) e)

  profile_at : (b : Bool) → has_level line ≡ b
      → (if b then None else numbers false word_value None (values_of ps key.ProfileId))
      ≡ (if has_level line then None else number_of word_value key.ProfileId line)
  profile_at true e = sym (ap (λ (b : Bool). if b then None else number_of word_value key.ProfileId line) e)
  profile_at false e =
      number_at false e word_value key.ProfileId
      ∙ sym (ap (λ (b : Bool). if b then None else number_of word_value key.ProfileId line) e)

  fields_at : (b : Bool) → has_level line ≡ b → (x : Option Level265) (y : Option Level266) → x ≡ level_265 line
      → y ≡ level_266 line → AreGiven line (behind b (values_of ps) (filter_map range_in ps) (leveled x y))
  fields_at b e x y h k = record {
    min_p_time = number_at b e byte_value key.MinPTime;
    stereo = flags_last None (values_of ps key.Stereo);
    sprop_stereo = flags_last None (values_of ps key.SpropStereo);
    use_inband_fec = flags_last None (values_of ps key.UseInbandFec);
    use_dtx = flags_last None (values_of ps key.UseDtx);
    level_asymmetry_allowed = flags_last None (values_of ps key.LevelAsymmetryAllowed);
    packetization_mode = number_at b e byte_value key.PacketizationMode;
    profile_level_id = number_at b e profile_level key.ProfileLevelId;
    profile_id = profile_at b e;
    profile = number_at b e byte_value key.Profile;
    level_idx = number_at b e byte_value key.LevelIdx;
    tier = number_at b e byte_value key.Tier;
    h265_profile_tier_level = h;
    h266_profile_tier_level = k;
    sprop_max_don_diff = number_at b e difference_value key.SpropMaxDonDiff;
    telephone_event_max = refl;
    octet_align = flags_last None (values_of ps key.OctetAlign);
    mode_set = number_at b e modes_of key.ModeSet;
  }

  abbrev means_265 : Option Level265
  means_265 = given_265 (last_value key.ProfileId line) (last_value key.TierFlag line) (last_value key.LevelId line)

  abbrev means_266 : Option Level266
  means_266 = given_266 (last_value key.ProfileId line) (last_value key.TierFlag line) (last_value key.LevelId line)

  -- what the parts are put after
  abbrev base : Bool → FormatParams
  base b = if b then with_level means_265 means_266 else no_format

  given_at : (b : Bool) → has_level line ≡ b
      → AreGiven line (behind b (values_of ps) (filter_map range_in ps) (base b))
  given_at true e =
      let own : means_265 ≡ level_265 line = sym (ap (λ (b : Bool). if b then means_265 else None) e) in
      let other : (if is_none means_265 then means_266 else None) ≡ level_266 line =
      ap (λ x. if is_none x then means_266 else None) own
      ∙ sym (ap (λ (b : Bool). if b && is_none (level_265 line) then means_266 else None) e) in
      subst (λ f. AreGiven line (behind true (values_of ps) (filter_map range_in ps) f))
      (sym (one_level means_265 means_266))
      (fields_at true e means_265 (if is_none means_265 then means_266 else None) own other)
  given_at false e = fields_at false e None None
      (sym (ap (λ (b : Bool). if b then means_265 else None) e))
      (sym (ap (λ (b : Bool). if b && is_none (level_265 line) then means_266 else None) e))

  read_line : format_of line
      ≡ behind (has_level line) (values_of ps) (filter_map range_in ps) (base (has_level line))
  unfolding format_of
  read_line =
      read_parts (list_any keyed.gives_level ps) ps (format.level_format ps)
      ∙ (λ i. behind (level_given ps i) (values_of ps) (filter_map range_in ps)
      (if level_given ps i
      then format.with_values (values_last key.ProfileId ps None i) (values_last key.TierFlag ps None i)
      (values_last key.LevelId ps None i)
      else no_format))

  pub given : AreGiven line (format_of line)
  given = subst (AreGiven line) (sym read_line) (given_at (has_level line) refl)

same_format : (line : List ℕ) (f g : FormatParams) → AreGiven line f → AreGiven line g → f ≡ g
same_format line f g h k i = record {
  min_p_time = (h.min_p_time ∙ sym k.min_p_time) i;
  stereo = (h.stereo ∙ sym k.stereo) i;
  sprop_stereo = (h.sprop_stereo ∙ sym k.sprop_stereo) i;
  use_inband_fec = (h.use_inband_fec ∙ sym k.use_inband_fec) i;
  use_dtx = (h.use_dtx ∙ sym k.use_dtx) i;
  level_asymmetry_allowed = (h.level_asymmetry_allowed ∙ sym k.level_asymmetry_allowed) i;
  packetization_mode = (h.packetization_mode ∙ sym k.packetization_mode) i;
  profile_level_id = (h.profile_level_id ∙ sym k.profile_level_id) i;
  profile_id = (h.profile_id ∙ sym k.profile_id) i;
  profile = (h.profile ∙ sym k.profile) i;
  level_idx = (h.level_idx ∙ sym k.level_idx) i;
  tier = (h.tier ∙ sym k.tier) i;
  h265_profile_tier_level = (h.h265_profile_tier_level ∙ sym k.h265_profile_tier_level) i;
  h266_profile_tier_level = (h.h266_profile_tier_level ∙ sym k.h266_profile_tier_level) i;
  sprop_max_don_diff = (h.sprop_max_don_diff ∙ sym k.sprop_max_don_diff) i;
  telephone_event_max = (h.telephone_event_max ∙ sym k.telephone_event_max) i;
  octet_align = (h.octet_align ∙ sym k.octet_align) i;
  mode_set = (h.mode_set ∙ sym k.mode_set) i;
}

pub formats_of_lines : FormatsAreOfLines
formats_of_lines line f = (
  (λ e. subst (AreGiven line) (sym e) (given line)),
  λ h. same_format line f (format_of line) h (given line),
)
