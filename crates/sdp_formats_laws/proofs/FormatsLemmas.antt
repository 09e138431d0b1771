-- A format comes back from its parameters.
use Rattle.std.proofs.Common.{◌≡◌, ℕ, Bool, true, false, ◌||◌, List, ◌++◌, refl, ◌∙◌, ap, drop}
use Rattle.std.proofs.Common.{Option, Some, None}
use Rattle.std.specs.Prelude.{fold}
use Rattle.std.specs.List.{flat_map, list_any}
use Rattle.std.specs.Option.{option_map, option_to_list}
use Rattle.media_types.specs.declared.codec.Codec.TheVariants as codec
use Rattle.sdp_formats_values.specs.declared.param.FormatParam.{FormatParam}
use Rattle.sdp_formats_values.specs.declared.param.FormatParam.TheVariants as param
use Rattle.sdp_formats_rows.specs.Formats.{no_format}
use Rattle.sdp_formats_rows.specs.declared.format.FormatParams.{FormatParams}
use Rattle.sdp_formats_rows.specs.Parameters.{each_param, params_of}
use Rattle.sdp_formats_section_rows.specs.Given.{is_unsupported}
use Rattle.sdp_formats_rows.specs.OneParam.{with_codec_param}
use Rattle.sdp_formats_section_rows.specs.SectionRows.{names}

-- one parameter, given or not
next : {V : Type 0} (b : Option V → FormatParams) (c : V → FormatParam)
    → ((v : V) → with_codec_param (b None) (c v) ≡ b (Some v)) → (o : Option V) (rest : List FormatParam)
    → fold with_codec_param (b None) (option_to_list (option_map c o) ++ rest) ≡ fold with_codec_param (b o) rest
next b c h None rest = refl
next b c h (Some v) rest = ap (λ f. fold with_codec_param f rest) (h v)

-- the parameters after the first n
abbrev left_of : FormatParams → ℕ → List FormatParam
left_of f n = flat_map option_to_list (drop n (each_param f))

-- the parameters of a format give it, but for telephone events
pub params_back : (f : FormatParams)
    → fold with_codec_param no_format (params_of f) ≡ record f { telephone_event_max = None }
params_back f =
    let g1 : FormatParams = record no_format { min_p_time = f.min_p_time } in
    let g2 : FormatParams = record g1 { stereo = f.stereo } in
    let g3 : FormatParams = record g2 { sprop_stereo = f.sprop_stereo } in
    let g4 : FormatParams = record g3 { use_inband_fec = f.use_inband_fec } in
    let g5 : FormatParams = record g4 { use_dtx = f.use_dtx } in
    let g6 : FormatParams = record g5 { level_asymmetry_allowed = f.level_asymmetry_allowed } in
    let g7 : FormatParams = record g6 { packetization_mode = f.packetization_mode } in
    let g8 : FormatParams = record g7 { profile_level_id = f.profile_level_id } in
    let g9 : FormatParams = record g8 { profile_id = f.profile_id } in
    let g10 : FormatParams = record g9 { profile = f.profile } in
    let g11 : FormatParams = record g10 { level_idx = f.level_idx } in
    let g12 : FormatParams = record g11 { tier = f.tier } in
    let g13 : FormatParams = record g12 { h265_profile_tier_level = f.h265_profile_tier_level } in
    let g14 : FormatParams = record g13 { h266_profile_tier_level = f.h266_profile_tier_level } in
    let g15 : FormatParams = record g14 { sprop_max_don_diff = f.sprop_max_don_diff } in
    let g17 : FormatParams = record g15 { octet_align = f.octet_align } in
    next (λ o. record no_format { min_p_time = o }) param.MinPTime (λ v. refl) f.min_p_time (left_of f 1)
    ∙ next (λ o. record g1 { stereo = o }) param.Stereo (λ v. refl) f.stereo (left_of f 2)
    ∙ next (λ o. record g2 { sprop_stereo = o }) param.SpropStereo (λ v. refl) f.sprop_stereo (left_of f 3)
    ∙ next (λ o. record g3 { use_inband_fec = o }) param.UseInbandFec (λ v. refl) f.use_inband_fec (left_of f 4)
    ∙ next (λ o. record g4 { use_dtx = o }) param.UseDtx (λ v. refl) f.use_dtx (left_of f 5)
    ∙ next (λ o. record g5 { level_asymmetry_allowed = o }) param.LevelAsymmetryAllowed (λ v. refl)
    f.level_asymmetry_allowed (left_of f 6)
    ∙ next (λ o. record g6 { packetization_mode = o }) param.PacketizationMode (λ v. refl)
    f.packetization_mode (left_of f 7)
    ∙ next (λ o. record g7 { profile_level_id = o }) param.ProfileLevelId (λ v. refl) f.profile_level_id (left_of f 8)
    ∙ next (λ o. record g8 { profile_id = o }) param.ProfileId (λ v. refl) f.profile_id (left_of f 9)
    ∙ next (λ o. record g9 { profile = o }) param.Profile (λ v. refl) f.profile (left_of f 10)
    ∙ next (λ o. record g10 { level_idx = o }) param.LevelIdx (λ v. refl) f.level_idx (left_of f 11)
    ∙ next (λ o. record g11 { tier = o }) param.Tier (λ v. refl) f.tier (left_of f 12)
    ∙ next (λ o. record g12 { h265_profile_tier_level = o }) param.H265ProfileTierLevel (λ v. refl)
    f.h265_profile_tier_level (left_of f 13)
    ∙ next (λ o. record g13 { h266_profile_tier_level = o }) param.H266ProfileTierLevel (λ v. refl)
    f.h266_profile_tier_level (left_of f 14)
    ∙ next (λ o. record g14 { sprop_max_don_diff = o }) param.SpropMaxDonDiff (λ v. refl)
    f.sprop_max_don_diff (left_of f 15)
    ∙ next (λ o. g15) param.TelephoneEvents (λ v. refl) f.telephone_event_max (left_of f 16)
    ∙ next (λ o. record g15 { octet_align = o }) param.OctetAlign (λ v. refl) f.octet_align (left_of f 17)
    ∙ next (λ o. record g17 { mode_set = o }) param.ModeSet (λ v. refl) f.mode_set (left_of f 18)

-- what no format gives: the type that another type is of, and what isn't supported
abbrev pub is_other : FormatParam → Bool
is_other (param.Apt pt) = true
is_other (param.BarePtList pt) = true
is_other (param.Red pt) = true
is_other param.AmrWbUnsupported = true
is_other _ = false

none_more : {V : Type 0} (c : V → FormatParam) → ((v : V) → is_other (c v) ≡ false) → (o : Option V)
    (rest : List FormatParam) → list_any is_other rest ≡ false
    → list_any is_other (option_to_list (option_map c o) ++ rest) ≡ false
none_more c h None rest e = e
none_more c h (Some v) rest e = ap (λ b. b || list_any is_other rest) (h v) ∙ e

pub none_other : (f : FormatParams) → list_any is_other (params_of f) ≡ false
none_other f =
    let e17 : list_any is_other (left_of f 17) ≡ false =
    none_more param.ModeSet (λ v. refl) f.mode_set (left_of f 18) refl in
    let e16 : list_any is_other (left_of f 16) ≡ false =
    none_more param.OctetAlign (λ v. refl) f.octet_align (left_of f 17) e17 in
    let e15 : list_any is_other (left_of f 15) ≡ false =
    none_more param.TelephoneEvents (λ v. refl) f.telephone_event_max (left_of f 16) e16 in
    let e14 : list_any is_other (left_of f 14) ≡ false =
    none_more param.SpropMaxDonDiff (λ v. refl) f.sprop_max_don_diff (left_of f 15) e15 in
    let e13 : list_any is_other (left_of f 13) ≡ false =
    none_more param.H266ProfileTierLevel (λ v. refl) f.h266_profile_tier_level (left_of f 14) e14 in
    let e12 : list_any is_other (left_of f 12) ≡ false =
    none_more param.H265ProfileTierLevel (λ v. refl) f.h265_profile_tier_level (left_of f 13) e13 in
    let e11 : list_any is_other (left_of f 11) ≡ false =
    none_more param.Tier (λ v. refl) f.tier (left_of f 12) e12 in
    let e10 : list_any is_other (left_of f 10) ≡ false =
    none_more param.LevelIdx (λ v. refl) f.level_idx (left_of f 11) e11 in
    let e9 : list_any is_other (left_of f 9) ≡ false =
    none_more param.Profile (λ v. refl) f.profile (left_of f 10) e10 in
    let e8 : list_any is_other (left_of f 8) ≡ false =
    none_more param.ProfileId (λ v. refl) f.profile_id (left_of f 9) e9 in
    let e7 : list_any is_other (left_of f 7) ≡ false =
    none_more param.ProfileLevelId (λ v. refl) f.profile_level_id (left_of f 8) e8 in
    let e6 : list_any is_other (left_of f 6) ≡ false =
    none_more param.PacketizationMode (λ v. refl) f.packetization_mode (left_of f 7) e7 in
    let e5 : list_any is_other (left_of f 5) ≡ false =
    none_more param.LevelAsymmetryAllowed (λ v. refl) f.level_asymmetry_allowed (left_of f 6) e6 in
    let e4 : list_any is_other (left_of f 4) ≡ false =
    none_more param.UseDtx (λ v. refl) f.use_dtx (left_of f 5) e5 in
    let e3 : list_any is_other (left_of f 3) ≡ false =
    none_more param.UseInbandFec (λ v. refl) f.use_inband_fec (left_of f 4) e4 in
    let e2 : list_any is_other (left_of f 2) ≡ false =
    none_more param.SpropStereo (λ v. refl) f.sprop_stereo (left_of f 3) e3 in
    let e1 : list_any is_other (left_of f 1) ≡ false =
    none_more param.Stereo (λ v. refl) f.stereo (left_of f 2) e2 in
    none_more param.MinPTime (λ v. refl) f.min_p_time (left_of f 1) e1

pub other_unsupported : (p : FormatParam) → is_other p ≡ false → is_unsupported p ≡ false
other_unsupported param.AmrWbUnsupported e = cc
other_unsupported _ e = refl

pub other_resend : (pt : ℕ) (p : FormatParam) → is_other p ≡ false → names codec.Rtx pt p ≡ false
other_resend pt (param.Apt t) e = cc
other_resend pt _ e = refl

pub other_red : (pt : ℕ) (p : FormatParam) → is_other p ≡ false → names codec.Red pt p ≡ false
other_red pt (param.BarePtList t) e = cc
other_red pt (param.Red t) e = cc
other_red pt _ e = refl
