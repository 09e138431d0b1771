-- Parameters put into a format one after the other: the last of each kind stays.
use Rattle.std.proofs.Common.{◌≡◌, ◌⊎◌, inl, inr, ◌↔◌, List, [], ◌∷◌, Option, Some, None, filter_map, refl, sym}
use Rattle.std.proofs.Common.{◌∙◌, ap}
use Rattle.std.specs.Prelude.{fold}
use Rattle.std.specs.List.{cons_option, last_or}
use Rattle.sdp_formats_rows.specs.Formats.{no_format}
use Rattle.sdp_formats_rows.specs.declared.format.FormatParams.{FormatParams}
use Rattle.sdp_formats_values.specs.declared.param.FormatParam.{FormatParam}
use Rattle.sdp_formats_values.specs.declared.param.FormatParam.TheVariants as param
use Rattle.sdp_formats_rows.specs.OneParam.{with_codec_param}
use Rattle.sdp_formats_laws.proofs.LastGiven.{last_exact}
use Rattle.sdp_formats_laws.proofs.Options.{none_some, some_same}
use Rattle.sdp_formats_laws.specs.SectionFormats.{AreLast, IsLastOfKind}

-- a parameter is of the kind and sets the field, or it isn't and leaves the field
abbrev pub Sets : {A : Type 0} → (A → FormatParam) → (FormatParams → Option A) → FormatParam → Type 0
Sets {A} kind field p =
    ((value : A) × (p ≡ kind value) × ((other : A) → p ≡ kind other → value ≡ other)
    × ((f : FormatParams) → field (with_codec_param f p) ≡ Some value))
    ⊎ (((value : A) → p ≡ kind value → ⊥) × ((f : FormatParams) → field (with_codec_param f p) ≡ field f))

module _ {A : Type 0} (kind : A → FormatParam) (field : FormatParams → Option A)
    (sets : (p : FormatParam) → Sets kind field p) where
  value_at : (p : FormatParam) → Sets kind field p → Option A
  value_at p (inl s) = Some s.0
  value_at p (inr n) = None

  value_in : FormatParam → Option A
  value_in p = value_at p (sets p)

  told : (p : FormatParam) (value : A) → (value_in p ≡ Some value) ↔ (p ≡ kind value)
  unfolding value_in value_at
  told p value = at (sets p)
    where
      at : (s : Sets kind field p) → (value_at p s ≡ Some value) ↔ (p ≡ kind value)
      at (inl s) = ((λ e. s.1 ∙ ap kind (some_same e)), λ e. ap Some (s.2 value e))
      at (inr n) = ((λ e. absurd (none_some e)), λ e. absurd (n.0 value e))

  one_more : (f : FormatParams) (p : FormatParam) (values : List A)
      → last_or (field (with_codec_param f p)) values ≡ last_or (field f) (cons_option (value_in p) values)
  unfolding value_in value_at
  one_more f p values = at (sets p)
    where
      at : (s : Sets kind field p)
          → last_or (field (with_codec_param f p)) values ≡ last_or (field f) (cons_option (value_at p s) values)
      at (inl s) = ap (λ o. last_or o values) (s.3 f)
      at (inr n) = ap (λ o. last_or o values) (n.1 f)

  put_in : (f : FormatParams) (ps : List FormatParam)
      → field (fold with_codec_param f ps) ≡ last_or (field f) (filter_map value_in ps)
  put_in f [] = refl
  put_in f (p ∷ ps) = put_in (with_codec_param f p) ps ∙ one_more f p (filter_map value_in ps)

  exact : (ps : List FormatParam) (o : Option A)
      → (o ≡ last_or None (filter_map value_in ps)) ↔ IsLastOfKind kind ps o
  exact ps o = last_exact value_in (λ p value. p ≡ kind value) told ps o

  last_kind : field no_format ≡ None → (ps : List FormatParam)
      → IsLastOfKind kind ps (field (fold with_codec_param no_format ps))
  last_kind none ps = (exact ps (field (fold with_codec_param no_format ps))).0
      (put_in no_format ps ∙ ap (λ o. last_or o (filter_map value_in ps)) none)

  one_kind : (ps : List FormatParam) (f g : FormatParams) → IsLastOfKind kind ps (field f)
      → IsLastOfKind kind ps (field g) → field f ≡ field g
  one_kind ps f g h k = (exact ps (field f)).1 h ∙ sym ((exact ps (field g)).1 k)

-- each kind
min_p_time : (p : FormatParam) → Sets param.MinPTime (λ f. f.min_p_time) p
min_p_time (param.MinPTime v) = inl (v, refl, (λ w e. cc), λ f. refl)
min_p_time _ = inr ((λ v e. cc), λ f. refl)

stereo : (p : FormatParam) → Sets param.Stereo (λ f. f.stereo) p
stereo (param.Stereo v) = inl (v, refl, (λ w e. cc), λ f. refl)
stereo _ = inr ((λ v e. cc), λ f. refl)

sprop_stereo : (p : FormatParam) → Sets param.SpropStereo (λ f. f.sprop_stereo) p
sprop_stereo (param.SpropStereo v) = inl (v, refl, (λ w e. cc), λ f. refl)
sprop_stereo _ = inr ((λ v e. cc), λ f. refl)

use_inband_fec : (p : FormatParam) → Sets param.UseInbandFec (λ f. f.use_inband_fec) p
use_inband_fec (param.UseInbandFec v) = inl (v, refl, (λ w e. cc), λ f. refl)
use_inband_fec _ = inr ((λ v e. cc), λ f. refl)

use_dtx : (p : FormatParam) → Sets param.UseDtx (λ f. f.use_dtx) p
use_dtx (param.UseDtx v) = inl (v, refl, (λ w e. cc), λ f. refl)
use_dtx _ = inr ((λ v e. cc), λ f. refl)

level_asymmetry_allowed : (p : FormatParam) → Sets param.LevelAsymmetryAllowed (λ f. f.level_asymmetry_allowed) p
level_asymmetry_allowed (param.LevelAsymmetryAllowed v) = inl (v, refl, (λ w e. cc), λ f. refl)
level_asymmetry_allowed _ = inr ((λ v e. cc), λ f. refl)

packetization_mode : (p : FormatParam) → Sets param.PacketizationMode (λ f. f.packetization_mode) p
packetization_mode (param.PacketizationMode v) = inl (v, refl, (λ w e. cc), λ f. refl)
packetization_mode _ = inr ((λ v e. cc), λ f. refl)

profile_level_id : (p : FormatParam) → Sets param.ProfileLevelId (λ f. f.profile_level_id) p
profile_level_id (param.ProfileLevelId v) = inl (v, refl, (λ w e. cc), λ f. refl)
profile_level_id _ = inr ((λ v e. cc), λ f. refl)

profile_id : (p : FormatParam) → Sets param.ProfileId (λ f. f.profile_id) p
profile_id (param.ProfileId v) = inl (v, refl, (λ w e. cc), λ f. refl)
profile_id _ = inr ((λ v e. cc), λ f. refl)

profile : (p : FormatParam) → Sets param.Profile (λ f. f.profile) p
profile (param.Profile v) = inl (v, refl, (λ w e. cc), λ f. refl)
profile _ = inr ((λ v e. cc), λ f. refl)

level_idx : (p : FormatParam) → Sets param.LevelIdx (λ f. f.level_idx) p
level_idx (param.LevelIdx v) = inl (v, refl, (λ w e. cc), λ f. refl)
level_idx _ = inr ((λ v e. cc), λ f. refl)

tier : (p : FormatParam) → Sets param.Tier (λ f. f.tier) p
tier (param.Tier v) = inl (v, refl, (λ w e. cc), λ f. refl)
tier _ = inr ((λ v e. cc), λ f. refl)

h265_profile_tier_level : (p : FormatParam) → Sets param.H265ProfileTierLevel (λ f. f.h265_profile_tier_level) p
h265_profile_tier_level (param.H265ProfileTierLevel v) = inl (v, refl, (λ w e. cc), λ f. refl)
h265_profile_tier_level _ = inr ((λ v e. cc), λ f. refl)

h266_profile_tier_level : (p : FormatParam) → Sets param.H266ProfileTierLevel (λ f. f.h266_profile_tier_level) p
h266_profile_tier_level (param.H266ProfileTierLevel v) = inl (v, refl, (λ w e. cc), λ f. refl)
h266_profile_tier_level _ = inr ((λ v e. cc), λ f. refl)

sprop_max_don_diff : (p : FormatParam) → Sets param.SpropMaxDonDiff (λ f. f.sprop_max_don_diff) p
sprop_max_don_diff (param.SpropMaxDonDiff v) = inl (v, refl, (λ w e. cc), λ f. refl)
sprop_max_don_diff _ = inr ((λ v e. cc), λ f. refl)

octet_align : (p : FormatParam) → Sets param.OctetAlign (λ f. f.octet_align) p
octet_align (param.OctetAlign v) = inl (v, refl, (λ w e. cc), λ f. refl)
octet_align _ = inr ((λ v e. cc), λ f. refl)

mode_set : (p : FormatParam) → Sets param.ModeSet (λ f. f.mode_set) p
mode_set (param.ModeSet v) = inl (v, refl, (λ w e. cc), λ f. refl)
mode_set _ = inr ((λ v e. cc), λ f. refl)

no_events : (f : FormatParams) (ps : List FormatParam)
    → (fold with_codec_param f ps).telephone_event_max ≡ f.telephone_event_max
no_events f [] = refl
no_events f (p ∷ ps) = no_events (with_codec_param f p) ps ∙ kept p
  where
    kept : (p : FormatParam) → (with_codec_param f p).telephone_event_max ≡ f.telephone_event_max
    kept (param.MinPTime v) = refl
    kept _ = refl

pub all_last : (ps : List FormatParam) → AreLast ps (fold with_codec_param no_format ps)
all_last ps = record {
  min_p_time = last_kind param.MinPTime (λ f. f.min_p_time) min_p_time refl ps;
  stereo = last_kind param.Stereo (λ f. f.stereo) stereo refl ps;
  sprop_stereo = last_kind param.SpropStereo (λ f. f.sprop_stereo) sprop_stereo refl ps;
  use_inband_fec = last_kind param.UseInbandFec (λ f. f.use_inband_fec) use_inband_fec refl ps;
  use_dtx = last_kind param.UseDtx (λ f. f.use_dtx) use_dtx refl ps;
  level_asymmetry_allowed =
      last_kind param.LevelAsymmetryAllowed (λ f. f.level_asymmetry_allowed) level_asymmetry_allowed refl ps;
  packetization_mode = last_kind param.PacketizationMode (λ f. f.packetization_mode) packetization_mode refl ps;
  profile_level_id = last_kind param.ProfileLevelId (λ f. f.profile_level_id) profile_level_id refl ps;
  profile_id = last_kind param.ProfileId (λ f. f.profile_id) profile_id refl ps;
  profile = last_kind param.Profile (λ f. f.profile) profile refl ps;
  level_idx = last_kind param.LevelIdx (λ f. f.level_idx) level_idx refl ps;
  tier = last_kind param.Tier (λ f. f.tier) tier refl ps;
  h265_profile_tier_level =
      last_kind param.H265ProfileTierLevel (λ f. f.h265_profile_tier_level) h265_profile_tier_level refl ps;
  h266_profile_tier_level =
      last_kind param.H266ProfileTierLevel (λ f. f.h266_profile_tier_level) h266_profile_tier_level refl ps;
  sprop_max_don_diff = last_kind param.SpropMaxDonDiff (λ f. f.sprop_max_don_diff) sprop_max_don_diff refl ps;
  telephone_event_max = no_events no_format ps;
  octet_align = last_kind param.OctetAlign (λ f. f.octet_align) octet_align refl ps;
  mode_set = last_kind param.ModeSet (λ f. f.mode_set) mode_set refl ps;
}

pub one_format : (ps : List FormatParam) (f g : FormatParams) → AreLast ps f → AreLast ps g → f ≡ g
one_format ps f g h k i = record {
  min_p_time = one_kind param.MinPTime (λ f. f.min_p_time) min_p_time ps f g h.min_p_time k.min_p_time i;
  stereo = one_kind param.Stereo (λ f. f.stereo) stereo ps f g h.stereo k.stereo i;
  sprop_stereo = one_kind param.SpropStereo (λ f. f.sprop_stereo) sprop_stereo ps f g h.sprop_stereo k.sprop_stereo i;
  use_inband_fec =
      one_kind param.UseInbandFec (λ f. f.use_inband_fec) use_inband_fec ps f g h.use_inband_fec k.use_inband_fec i;
  use_dtx = one_kind param.UseDtx (λ f. f.use_dtx) use_dtx ps f g h.use_dtx k.use_dtx i;
  level_asymmetry_allowed =
      one_kind param.LevelAsymmetryAllowed (λ f. f.level_asymmetry_allowed) level_asymmetry_allowed ps f g
      h.level_asymmetry_allowed k.level_asymmetry_allowed i;
  packetization_mode =
      one_kind param.PacketizationMode (λ f. f.packetization_mode) packetization_mode ps f g
      h.packetization_mode k.packetization_mode i;
  profile_level_id =
      one_kind param.ProfileLevelId (λ f. f.profile_level_id) profile_level_id ps f g
      h.profile_level_id k.profile_level_id i;
  profile_id = one_kind param.ProfileId (λ f. f.profile_id) profile_id ps f g h.profile_id k.profile_id i;
  profile = one_kind param.Profile (λ f. f.profile) profile ps f g h.profile k.profile i;
  level_idx = one_kind param.LevelIdx (λ f. f.level_idx) level_idx ps f g h.level_idx k.level_idx i;
  tier = one_kind param.Tier (λ f. f.tier) tier ps f g h.tier k.tier i;
  h265_profile_tier_level =
      one_kind param.H265ProfileTierLevel (λ f. f.h265_profile_tier_level) h265_profile_tier_level ps f g
      h.h265_profile_tier_level k.h265_profile_tier_level i;
  h266_profile_tier_level =
      one_kind param.H266ProfileTierLevel (λ f. f.h266_profile_tier_level) h266_profile_tier_level ps f g
      h.h266_profile_tier_level k.h266_profile_tier_level i;
  sprop_max_don_diff =
      one_kind param.SpropMaxDonDiff (λ f. f.sprop_max_don_diff) sprop_max_don_diff ps f g
      h.sprop_max_don_diff k.sprop_max_don_diff i;
  telephone_event_max = (h.telephone_event_max ∙ sym k.telephone_event_max) i;
  octet_align = one_kind param.OctetAlign (λ f. f.octet_align) octet_align ps f g h.octet_align k.octet_align i;
  mode_set = one_kind param.ModeSet (λ f. f.mode_set) mode_set ps f g h.mode_set k.mode_set i;
}
