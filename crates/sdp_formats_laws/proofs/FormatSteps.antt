-- What the parts of a line leave of each parameter.
use Rattle.std.proofs.Common.{◌≡◌, ℕ, Bool, true, false, List, [], ◌∷◌, Option, Some, None, filter_map, refl, ◌∙◌}
use Rattle.std.proofs.Common.{if◌then◌else◌}
use Rattle.std.specs.List.{cons_option, last_or}
use Rattle.std.specs.Str.{trim}
use Rattle.sdp_formats_rows.specs.Formats.{is_on, replaced, with_fields, with_key, with_parts, with_range}
use Rattle.sdp_formats_rows.specs.LineValues.{is_key}
use Rattle.sdp_formats_rows.specs.Formats.{word_value}
use Rattle.sdp_formats_rows.specs.declared.format.FormatParams.{FormatParams}
use Rattle.sdp_formats_grammar.specs.Split.{parts}
use Rattle.sdp_formats_values.specs.Keys.{key_named}
use Rattle.sdp_formats_values.specs.Numbers.{modes_of, profile_level, range_of}
use Rattle.sdp_formats_values.specs.Params.{byte_value}
use Rattle.sdp_formats_values.specs.declared.key.Key.{Key}
use Rattle.sdp_formats_values.specs.declared.key.Key.TheVariants as key
use Rattle.sdp_formats_laws.proofs.FormatKeys.{key_same}
use Rattle.sdp_formats_laws.specs.FormatParts.{range_in, range_of_pieces, value_in, value_of_pieces}
use Rattle.sdp_formats_laws.specs.Formats.{difference_value}

-- a number or a flag after values of its key
abbrev pub numbers : Bool → (List ℕ → Option ℕ) → Option ℕ → List (List ℕ) → Option ℕ
numbers last read before [] = before
numbers last read before (v ∷ vs) = numbers last read (replaced last before (read v)) vs

abbrev pub flags : Option Bool → List (List ℕ) → Option Bool
flags before [] = before
flags before (v ∷ vs) = flags (is_on v) vs

-- a format after the values of each key and some ranges
abbrev pub behind : Bool → (Key → List (List ℕ)) → List ℕ → FormatParams → FormatParams
behind last values ranges f = record {
  min_p_time = numbers last byte_value f.min_p_time (values key.MinPTime);
  stereo = flags f.stereo (values key.Stereo);
  sprop_stereo = flags f.sprop_stereo (values key.SpropStereo);
  use_inband_fec = flags f.use_inband_fec (values key.UseInbandFec);
  use_dtx = flags f.use_dtx (values key.UseDtx);
  level_asymmetry_allowed = flags f.level_asymmetry_allowed (values key.LevelAsymmetryAllowed);
  packetization_mode = numbers last byte_value f.packetization_mode (values key.PacketizationMode);
  profile_level_id = numbers last profile_level f.profile_level_id (values key.ProfileLevelId);
  profile_id = if last then f.profile_id else numbers false word_value f.profile_id (values key.ProfileId);
  profile = numbers last byte_value f.profile (values key.Profile);
  level_idx = numbers last byte_value f.level_idx (values key.LevelIdx);
  tier = numbers last byte_value f.tier (values key.Tier);
  h265_profile_tier_level = f.h265_profile_tier_level;
  h266_profile_tier_level = f.h266_profile_tier_level;
  sprop_max_don_diff = numbers last difference_value f.sprop_max_don_diff (values key.SpropMaxDonDiff);
  telephone_event_max = last_or f.telephone_event_max ranges;
  octet_align = flags f.octet_align (values key.OctetAlign);
  mode_set = numbers last modes_of f.mode_set (values key.ModeSet);
}

abbrev more : (Key → Bool) → List ℕ → (Key → List (List ℕ)) → Key → List (List ℕ)
more is value values k = cons_option (if is k then Some value else None) (values k)

key_step : (last : Bool) (o : Option Key) (value : List ℕ) (values : Key → List (List ℕ)) (ranges : List ℕ)
    (f : FormatParams) → behind last values ranges (with_key last o value f)
    ≡ behind last (more (λ k. is_key k o) value values) ranges f
key_step true (Some key.ProfileId) value values ranges f = refl
key_step false (Some key.ProfileId) value values ranges f = refl
key_step last _ value values ranges f = refl

range_step : (last : Bool) (o : Option ℕ) (values : Key → List (List ℕ)) (ranges : List ℕ) (f : FormatParams)
    → behind last values ranges (with_range o f) ≡ behind last values (cons_option o ranges) f
range_step last None values ranges f = refl
range_step last (Some event) values ranges f = refl

step : (last : Bool) (pieces : List (List ℕ)) (values : Key → List (List ℕ)) (ranges : List ℕ) (f : FormatParams)
    → behind last values ranges (with_fields last pieces f)
    ≡ behind last (λ k. cons_option (value_of_pieces k pieces) (values k))
    (cons_option (range_of_pieces pieces) ranges) f
step last [] values ranges f = refl
step last (word ∷ []) values ranges f = range_step last (range_of (trim word)) values ranges f
step last (name ∷ value ∷ others) values ranges f =
    key_step last (key_named (trim name)) (trim value) values ranges f
    ∙ (λ i. behind last (more (λ k. key_same k (trim name) i) (trim value) values) ranges f)

-- the values and ranges of some parts
abbrev pub values_of : List (List ℕ) → Key → List (List ℕ)
values_of ps k = filter_map (value_in k) ps

pub read_parts : (last : Bool) (ps : List (List ℕ)) (f : FormatParams)
    → with_parts last ps f ≡ behind last (values_of ps) (filter_map range_in ps) f
read_parts true [] f = refl
read_parts false [] f = refl
read_parts last (part ∷ rest) f =
    read_parts last rest (with_fields last (parts 61 part) f)
    ∙ step last (parts 61 part) (values_of rest) (filter_map range_in rest) f
