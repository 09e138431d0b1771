-- A format is read of the text that it is printed as.
use Rattle.std.proofs.Common.{◌≡◌, ◌<◌, ◌^◌, ℕ, Bool, true, false, List, [], ◌∷◌, ◌++◌, map}
use Rattle.std.proofs.Common.{codes, decimal, Option, Some, None, IfSome, refl, sym, ◌∙◌, ap, subst, ⊎_elim}
use Rattle.std.proofs.Common.{take, drop}
use Rattle.std.specs.Prelude.{fold}
use Rattle.std.specs.List.{flat_map}
use Rattle.std.specs.Option.{option_map, option_to_list}
use Rattle.std.proofs.lemmas.List.{map-append}
use Rattle.std.proofs.lemmas.List.Sums.{fold-append}
use Rattle.media_types.specs.H265ProfileTierLevel.{ComesBack as ComesBack265}
use Rattle.media_types.specs.H266ProfileTierLevel.{ComesBack as ComesBack266}
use Rattle.media_types.specs.H265Level.{level_id as level_265}
use Rattle.media_types.specs.H265Profile.{profile_id as profile_265}
use Rattle.media_types.specs.Tier.{tier_flag}
use Rattle.media_types.specs.H266Level.{level_id as level_266}
use Rattle.media_types.specs.H266Profile.{profile_id as profile_266}
use Rattle.media_types.specs.H265ProfileTierLevel.{H265ProfileTierLevel as Level265}
use Rattle.media_types.specs.H266ProfileTierLevel.{H266ProfileTierLevel as Level266}
use Rattle.sdp_formats_grammar.specs.Joined.{joined}
use Rattle.sdp_formats_rows.specs.Formats.{format_of}
use Rattle.sdp_formats_rows.specs.Formats.{no_format, with_level, with_values}
use Rattle.sdp_formats_rows.specs.Parameters.{each_param}
use Rattle.sdp_formats_rows.specs.Texts.{format_text}
use Rattle.sdp_formats_rows.specs.declared.format.FormatParams.{FormatParams}
use Rattle.sdp_formats_values.specs.Params.{level_param}
use Rattle.sdp_formats_values.specs.PrintedParameters.{pair_text, param_text}
use Rattle.sdp_formats_values.specs.declared.param.FormatParam.{FormatParam}
use Rattle.sdp_formats_values.specs.declared.param.FormatParam.TheVariants as param
use Rattle.sdp_formats_laws.proofs.FormatFields.{IsPart}
use Rattle.sdp_formats_laws.proofs.FormatFields.{with_part}
use Rattle.sdp_formats_laws.proofs.FormatTexts.{line_read}
use Rattle.sdp_formats_laws.proofs.FormatsBack.{any_flag, by_levels, given}
use Rattle.sdp_formats_laws.proofs.LevelLists.{IsLevelOf, all_nested}
use Rattle.sdp_formats_laws.proofs.LevelNumbers.{reads_265, reads_266}
use Rattle.sdp_formats_laws.proofs.LevelPairs.{level_shape}
use Rattle.sdp_formats_laws.specs.Keyed.{pair}
use Rattle.sdp_formats_laws.specs.PrintedParameters.{FormatsComeBack}
use Rattle.sdp_formats_rounds.specs.Members.{IsEach}
use Rattle.sdp_formats_rounds.specs.Ranges.{AtMostOne, IsInRange}
use Rattle.sdp_formats_laws.proofs.FormatLevels.{fields_of, level_line, level_texts}

-- the parameters of a format are parts of its text
abbrev pub EachOption : (FormatParam → Type 0) → List (Option FormatParam) → Type 0
EachOption P [] = Unit {0}
EachOption P (o ∷ os) = IfSome o P × EachOption P os

each_option : (P : FormatParam → Type 0) (os : List (Option FormatParam)) → EachOption P os
    → IsEach P (flat_map option_to_list os)
each_option P [] h = tt
each_option P (None ∷ os) h = each_option P os h.1
each_option P (Some p ∷ os) h = (h.0, each_option P os h.1)

map_some : {V : Type 0} (c : V → FormatParam) (P : FormatParam → Type 0) (o : Option V) → IfSome o (λ v. P (c v))
    → IfSome (option_map c o) P
map_some c P None h = tt
map_some c P (Some v) h = h

profile_some : (last : Bool) (o : Option ℕ) → IfSome o (λ v. v < 2 ^ 32) → IfSome o (λ v. last ≡ false)
    → IfSome o (λ v. (v < 2 ^ 32) × (last ≡ false))
profile_some last None h k = tt
profile_some last (Some v) h k = (h, k)

front_parts : (last : Bool) (f : FormatParams) → IsInRange f → IfSome f.profile_id (λ v. last ≡ false)
    → IsEach (IsPart last) (given f 0 12)
front_parts last f h id = each_option (IsPart last) (take 12 (each_param f)) (
  map_some param.MinPTime (IsPart last) f.min_p_time h.0,
  (
    map_some param.Stereo (IsPart last) f.stereo (any_flag f.stereo),
    (
      map_some param.SpropStereo (IsPart last) f.sprop_stereo (any_flag f.sprop_stereo),
      (
        map_some param.UseInbandFec (IsPart last) f.use_inband_fec (any_flag f.use_inband_fec),
        (
          map_some param.UseDtx (IsPart last) f.use_dtx (any_flag f.use_dtx),
          (
            map_some param.LevelAsymmetryAllowed (IsPart last) f.level_asymmetry_allowed
                (any_flag f.level_asymmetry_allowed),
            (
              map_some param.PacketizationMode (IsPart last) f.packetization_mode h.1,
              (
                map_some param.ProfileLevelId (IsPart last) f.profile_level_id h.2,
                (
                  map_some param.ProfileId (IsPart last) f.profile_id (profile_some last f.profile_id h.3 id),
                  (
                    map_some param.Profile (IsPart last) f.profile h.4,
                    (
                      map_some param.LevelIdx (IsPart last) f.level_idx h.5,
                      (
                        map_some param.Tier (IsPart last) f.tier h.6,
                        tt,
                      ),
                    ),
                  ),
                ),
              ),
            ),
          ),
        ),
      ),
    ),
  ),
)

back_parts : (last : Bool) (f : FormatParams) → IsInRange f → IsEach (IsPart last) (given f 14 4)
back_parts last f h = each_option (IsPart last) (take 4 (drop 14 (each_param f))) (
  map_some param.SpropMaxDonDiff (IsPart last) f.sprop_max_don_diff h.7,
  (
    map_some param.TelephoneEvents (IsPart last) f.telephone_event_max h.8,
    (
      map_some param.OctetAlign (IsPart last) f.octet_align (any_flag f.octet_align),
      (
        map_some param.ModeSet (IsPart last) f.mode_set h.9,
        tt,
      ),
    ),
  ),
)

-- and give it, one by one
next : {V : Type 0} (b : Option V → FormatParams) (c : V → FormatParam)
    → ((v : V) → with_part (b None) (c v) ≡ b (Some v)) → (o : Option V) (rest : List FormatParam)
    → fold with_part (b None) (option_to_list (option_map c o) ++ rest) ≡ fold with_part (b o) rest
next b c h None rest = refl
next b c h (Some v) rest = ap (λ f. fold with_part f rest) (h v)

abbrev pub levels_alone : Option Level265 → Option Level266 → FormatParams
levels_alone a b = record no_format { h265_profile_tier_level = a; h266_profile_tier_level = b }

filled : (f : FormatParams) (a : Option Level265) (b : Option Level266)
    → fold with_part (fold with_part (levels_alone a b) (given f 0 12)) (given f 14 4)
    ≡ record f { h265_profile_tier_level = a; h266_profile_tier_level = b }
filled f a b =
    let g0 : FormatParams = levels_alone a b in
    let g1 : FormatParams = record g0 { min_p_time = f.min_p_time } in
    let g2 : FormatParams = record g1 { stereo = f.stereo } in
    let g3 : FormatParams = record g2 { sprop_stereo = f.sprop_stereo } in
    let g4 : FormatParams = record g3 { use_inband_fec = f.use_inband_fec } in
    let g5 : FormatParams = record g4 { use_dtx = f.use_dtx } in
    let g6 : FormatParams = record g5 { level_asymmetry_allowed = f.level_asymmetry_allowed } in
    let g7 : FormatParams = record g6 { packetization_mode = f.packetization_mode } in
    let g8 : FormatParams = record g7 { profile_level_id = f.profile_level_id } in
    let g9 : FormatParams = record g8 { profile_id = f.profile_id } in
    let g10 : FormatParams = record g9 { profile = f.profile } in
    let g11 : FormatParams = record g10 { level_idx = f.level_idx } in
    let g12 : FormatParams = record g11 { tier = f.tier } in
    let g13 : FormatParams = record g12 { sprop_max_don_diff = f.sprop_max_don_diff } in
    let g14 : FormatParams = record g13 { telephone_event_max = f.telephone_event_max } in
    let g15 : FormatParams = record g14 { octet_align = f.octet_align } in
    let g16 : FormatParams = record g15 { mode_set = f.mode_set } in
    let front : fold with_part g0 (given f 0 12) ≡ g12 = next (λ o. record g0 { min_p_time = o }) param.MinPTime
    (λ v. refl) f.min_p_time (given f 1 11)
    ∙ next (λ o. record g1 { stereo = o }) param.Stereo (λ v. refl) f.stereo (given f 2 10)
    ∙ next (λ o. record g2 { sprop_stereo = o }) param.SpropStereo (λ v. refl) f.sprop_stereo (given f 3 9)
    ∙ next (λ o. record g3 { use_inband_fec = o }) param.UseInbandFec (λ v. refl) f.use_inband_fec (given f 4 8)
    ∙ next (λ o. record g4 { use_dtx = o }) param.UseDtx (λ v. refl) f.use_dtx (given f 5 7)
    ∙ next (λ o. record g5 { level_asymmetry_allowed = o }) param.LevelAsymmetryAllowed
    (λ v. refl) f.level_asymmetry_allowed (given f 6 6)
    ∙ next (λ o. record g6 { packetization_mode = o }) param.PacketizationMode (λ v. refl) f.packetization_mode
    (given f 7 5)
    ∙ next (λ o. record g7 { profile_level_id = o }) param.ProfileLevelId (λ v. refl) f.profile_level_id (given f 8 4)
    ∙ next (λ o. record g8 { profile_id = o }) param.ProfileId (λ v. refl) f.profile_id (given f 9 3)
    ∙ next (λ o. record g9 { profile = o }) param.Profile (λ v. refl) f.profile (given f 10 2)
    ∙ next (λ o. record g10 { level_idx = o }) param.LevelIdx (λ v. refl) f.level_idx (given f 11 1)
    ∙ next (λ o. record g11 { tier = o }) param.Tier (λ v. refl) f.tier (given f 12 0) in
    ap (λ g. fold with_part g (given f 14 4)) front
    ∙ next (λ o. record g12 { sprop_max_don_diff = o }) param.SpropMaxDonDiff (λ v. refl) f.sprop_max_don_diff
    (given f 15 3)
    ∙ next (λ o. record g13 { telephone_event_max = o }) param.TelephoneEvents (λ v. refl) f.telephone_event_max
    (given f 16 2)
    ∙ next (λ o. record g14 { octet_align = o }) param.OctetAlign (λ v. refl) f.octet_align (given f 17 1)
    ∙ next (λ o. record g15 { mode_set = o }) param.ModeSet (λ v. refl) f.mode_set (given f 18 0)

-- the text of a format with a profile, tier and level
level_text : (front back : List FormatParam) (l : FormatParam) (id tier level : ℕ) → IsLevelOf l id tier level
    → joined (codes ";") (map param_text (front ++ l ∷ back))
    ≡ joined (codes ";") (map param_text front ++ (level_texts id tier level ++ map param_text back))
level_text front back l id tier level is =
    let a = pair_text (pair (codes "profile-id") (decimal id)) in
    let c = pair_text (pair (codes "tier-flag") (decimal tier)) in
    let e = pair_text (pair (codes "level-id") (decimal level)) in
    ap (joined (codes ";")) (map-append param_text front (l ∷ back)
    ∙ (λ i. map param_text front ++ (is.text ∙ level_shape id tier level) i ∷ map param_text back))
    ∙ all_nested (codes ";") (map param_text front) a c e (map param_text back)

-- what three values give alone
of_265 : (o : Option Level265) (p : Option Level266) (v : Level265)
    → level_param o p ≡ param.H265ProfileTierLevel v ∷ [] → with_level o p ≡ levels_alone (Some v) None
of_265 (Some x) p v e = let same : x ≡ v = cc in ap (λ y. levels_alone (Some y) None) same
of_265 None (Some x) v e = absurd (cc)
of_265 None None v e = absurd (cc)

of_266 : (o : Option Level265) (p : Option Level266) (v : Level266)
    → level_param o p ≡ param.H266ProfileTierLevel v ∷ [] → with_level o p ≡ levels_alone None (Some v)
of_266 (Some x) p v e = absurd (cc)
of_266 None (Some x) v e = let same : x ≡ v = cc in ap (λ y. levels_alone None (Some y)) same
of_266 None None v e = absurd (cc)

-- the whole format
whole_of : (f : FormatParams) (a : Option Level265) (b : Option Level266) → f.h265_profile_tier_level ≡ a
    → f.h266_profile_tier_level ≡ b → fold with_part (fold with_part (levels_alone a b) (given f 0 12))
    (given f 14 4) ≡ f
whole_of f a b five six =
    filled f a b ∙ (λ i. record f { h265_profile_tier_level = sym five i; h266_profile_tier_level = sym six i })

each_both : (P : FormatParam → Type 0) (xs ys : List FormatParam) → IsEach P xs → IsEach P ys → IsEach P (xs ++ ys)
each_both P [] ys h k = k
each_both P (x ∷ xs) ys h k = (h.0, each_both P xs ys h.1 k)

any_profile : (o : Option ℕ) → IfSome o (λ v. false ≡ false)
any_profile None = tt
any_profile (Some v) = refl

no_levels : (f : FormatParams) → IsInRange f → f.h265_profile_tier_level ≡ None → f.h266_profile_tier_level ≡ None
    → format_of (format_text f) ≡ f
no_levels f h five six =
    let front = given f 0 12 in
    let back = given f 14 4 in
    ap (λ ps. format_of (joined (codes ";") (map param_text ps))) (by_levels f None None five six)
    ∙ line_read (front ++ back) (each_both (IsPart false) front back
    (front_parts false f h (any_profile f.profile_id)) (back_parts false f h))
    ∙ fold-append with_part no_format front back
    ∙ whole_of f None None five six

absent_profile : (o : Option ℕ) → o ≡ None → IfSome o (λ v. true ≡ false)
absent_profile o e = subst (λ x. IfSome x (λ v. true ≡ false)) (sym e) tt

with_one : (f : FormatParams) (a : Option Level265) (b : Option Level266) (l : FormatParam) (id tier level : ℕ)
    → f.h265_profile_tier_level ≡ a → f.h266_profile_tier_level ≡ b
    → option_to_list (option_map param.H265ProfileTierLevel a)
    ++ (option_to_list (option_map param.H266ProfileTierLevel b) ++ given f 14 4) ≡ l ∷ given f 14 4
    → IsLevelOf l id tier level
    → with_values (Some (decimal id)) (Some (decimal tier)) (Some (decimal level)) ≡ levels_alone a b
    → IsInRange f → f.profile_id ≡ None → format_of (format_text f) ≡ f
with_one f a b l id tier level five six list is values h none =
    let front = given f 0 12 in
    let back = given f 14 4 in
    ap (λ ps. format_of (joined (codes ";") (map param_text ps))) (by_levels f a b five six ∙ ap (λ t. front ++ t) list)
    ∙ ap format_of (level_text front back l id tier level is)
    ∙ level_line front back id tier level (fields_of id tier level is.id_small is.tier_small is.level_small)
    (front_parts true f h (absent_profile f.profile_id none)) (back_parts true f h)
    ∙ ap (λ g. fold with_part (fold with_part g front) back) values
    ∙ whole_of f a b five six

one_at_most : ComesBack265 → ComesBack266 → (f : FormatParams) (a : Option Level265) (b : Option Level266)
    → f.h265_profile_tier_level ≡ a → f.h266_profile_tier_level ≡ b → IsInRange f → f.profile_id ≡ None
    → AtMostOne a b → format_of (format_text f) ≡ f
one_at_most one other f None None five six h none apart = no_levels f h five six
one_at_most one other f (Some v) None five six h none apart =
    let is = reads_265 one v in
    with_one f (Some v) None (param.H265ProfileTierLevel v) (profile_265 v.profile) (tier_flag v.tier)
    (level_265 v.level)
    five six refl is (of_265 _ _ v is.reads) h none
one_at_most one other f None (Some v) five six h none apart =
    let is = reads_266 other v in
    with_one f None (Some v) (param.H266ProfileTierLevel v) (profile_266 v.profile) (tier_flag v.tier)
    (level_266 v.level)
    five six refl is (of_266 _ _ v is.reads) h none
one_at_most one other f (Some v) (Some w) five six h none apart = absurd apart

pub formats_back : ComesBack265 → ComesBack266 → FormatsComeBack
formats_back one other f h levels = ⊎_elim
    (λ (k : (f.h265_profile_tier_level ≡ None) × (f.h266_profile_tier_level ≡ None)). no_levels f h k.0 k.1)
    (λ k. one_at_most one other f f.h265_profile_tier_level f.h266_profile_tier_level refl refl h k.0 k.1) levels
