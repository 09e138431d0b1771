-- Scores are symmetric.
use Rattle.std.proofs.Common.{◌≡◌, ℕ, ◌-◌, Bool, true, false, ◌&&◌, ◌==◌, refl, ◌∙◌, ap, arith}
use Rattle.std.proofs.Common.{Option, Some, None, if◌then◌else◌}
use Rattle.std.specs.Prelude.{unwrap_or}
use Rattle.std.specs.Option.{option_map}
use Rattle.std.proofs.lemmas.Grind.{common_steps}
use Rattle.media_types.specs.H265Profile as profile_265
use Rattle.media_types.specs.Tier.{tier_flag}
use Rattle.media_types.specs.H266Profile as profile_266
use Rattle.media_types.specs.declared.h264.H264ProfileLevel.{H264ProfileLevel}
use Rattle.media_types.specs.declared.profile_tier_level.ProfileTierLevel.{ProfileTierLevel}
use Rattle.media_types.specs.declared.codec.Codec.{Codec}
use Rattle.media_types.specs.declared.codec.Codec.TheVariants.{Opus, AmrWb, H264, H265}
use Rattle.media_types.specs.declared.codec.Codec.TheVariants.{H266, Vp9, Av1, Tele}
use Rattle.sdp_formats_rows.specs.Points.{points_if, distance, level_points}
use Rattle.sdp_formats_rows.specs.H264Score as h264
use Rattle.sdp_formats_rows.specs.LevelScore as levels
use Rattle.sdp_formats_rows.specs.declared.format.FormatParams.{FormatParams}
use Rattle.sdp_formats_rows.specs.declared.spec.CodecSpec.{CodecSpec}
use Rattle.sdp_formats_rows.specs.Codecs.{codec_number, is_codec}
use Rattle.sdp_formats_rows.specs.Texts.{numbers_265, numbers_266}
use Rattle.sdp_formats_rows.specs.Same.{same, same_bool, same_flag, same_numbers, alike, same_opus, same_speech}
use Rattle.sdp_formats_rows.specs.Same.{same_h264, same_video, same_levels, same_format}
use Rattle.sdp_formats_rows.specs.FormatScores.{opus_score, modes_score, vp9_score, av1_score}
use Rattle.sdp_formats_rows.specs.Scores.{is_mono, amr_wb_score}
use Rattle.sdp_formats_rows.specs.FormatScores.{given_264, format_score}
use Rattle.sdp_formats_rows.specs.Scores.{settings_score, codec_score}
use Rattle.sdp_formats_rows.specs.Scores.{score}

eq_sym : (a b : ℕ) → (a == b) ≡ (b == a)
eq_sym a b = grind (arith, common_steps)

same_sym : (a b : Option ℕ) → same a b ≡ same b a
same_sym None None = refl
same_sym (Some a) (Some b) = eq_sym a b
same_sym None (Some b) = refl
same_sym (Some a) None = refl

bool_sym : (a b : Bool) → same_bool a b ≡ same_bool b a
bool_sym true true = refl
bool_sym true false = refl
bool_sym false true = refl
bool_sym false false = refl

flag_sym : (a b : Option Bool) → same_flag a b ≡ same_flag b a
flag_sym None None = refl
flag_sym (Some a) (Some b) = bool_sym a b
flag_sym None (Some b) = refl
flag_sym (Some a) None = refl

alike_sym : (a b : Option Bool) → alike a b ≡ alike b a
alike_sym a b = bool_sym (unwrap_or a false) (unwrap_or b false)

numbers_sym : (a b : Option (ℕ × ℕ × ℕ)) → same_numbers a b ≡ same_numbers b a
numbers_sym None None = refl
numbers_sym (Some a) (Some b) = rw (eq_sym a.0 b.0, eq_sym a.1 b.1, eq_sym a.2 b.2) refl
numbers_sym None (Some b) = refl
numbers_sym (Some a) None = refl

both : {a b c d : Bool} → a ≡ b → c ≡ d → (a && c) ≡ (b && d)
both e f = cc

format_sym : (a b : FormatParams) → same_format a b ≡ same_format b a
format_sym a b = both (both (both (both opus speech) h264) video) levels
  where
    opus : same_opus a b ≡ same_opus b a
    opus = both (both (both (both (same_sym a.min_p_time b.min_p_time) (flag_sym a.stereo b.stereo))
        (flag_sym a.sprop_stereo b.sprop_stereo)) (flag_sym a.use_inband_fec b.use_inband_fec))
        (flag_sym a.use_dtx b.use_dtx)

    speech : same_speech a b ≡ same_speech b a
    speech = both (both (flag_sym a.octet_align b.octet_align) (same_sym a.mode_set b.mode_set))
        (same_sym a.telephone_event_max b.telephone_event_max)

    h264 : same_h264 a b ≡ same_h264 b a
    h264 = both (both (flag_sym a.level_asymmetry_allowed b.level_asymmetry_allowed)
        (same_sym a.packetization_mode b.packetization_mode)) (same_sym a.profile_level_id b.profile_level_id)

    video : same_video a b ≡ same_video b a
    video = both (both (both (both (same_sym a.profile_id b.profile_id) (same_sym a.profile b.profile))
        (same_sym a.level_idx b.level_idx)) (same_sym a.tier b.tier))
        (same_sym a.sprop_max_don_diff b.sprop_max_don_diff)

    levels : same_levels a b ≡ same_levels b a
    levels = both
        (numbers_sym (option_map numbers_265 a.h265_profile_tier_level)
        (option_map numbers_265 b.h265_profile_tier_level))
        (numbers_sym (option_map numbers_266 a.h266_profile_tier_level)
        (option_map numbers_266 b.h266_profile_tier_level))

distance_sym : (a b : ℕ) → distance a b ≡ distance b a
distance_sym a b = omega arith

level_sym : (a b : ℕ) → level_points a b ≡ level_points b a
level_sym a b = ap (λ n. 100 - n) (distance_sym a b)

opus_sym : (a b : FormatParams) → opus_score a b ≡ opus_score b a
opus_sym a b =
    rw (
      same_sym a.min_p_time b.min_p_time,
      flag_sym a.use_inband_fec b.use_inband_fec,
      flag_sym a.use_dtx b.use_dtx,
      alike_sym a.stereo b.stereo,
      alike_sym a.sprop_stereo b.sprop_stereo,
    ) refl

modes_sym : (a b : Option ℕ) → modes_score a b ≡ modes_score b a
modes_sym None None = refl
modes_sym (Some a) (Some b) = ap (λ t. points_if t 99) (eq_sym a b)
modes_sym None (Some b) = refl
modes_sym (Some a) None = refl

and_swap : (a b c : Bool) → (a && b && c) ≡ (b && a && c)
and_swap true true c = refl
and_swap true false c = refl
and_swap false true c = refl
and_swap false false c = refl

choose : {A : Type 0} (x y : Bool) (p q o : A) → x ≡ y → p ≡ q → (if x then p else o) ≡ (if y then q else o)
choose x y p q o e f = cc

amr_wb_sym : (a b : CodecSpec) → amr_wb_score a b ≡ amr_wb_score b a
amr_wb_sym a b =
    choose _ _ _ _ None
    (and_swap (is_mono a) (is_mono b) (alike a.format.octet_align b.format.octet_align)
    ∙ ap (λ t. is_mono b && is_mono a && t) (alike_sym a.format.octet_align b.format.octet_align))
    (modes_sym a.format.mode_set b.format.mode_set)

points_sym : (x y : Bool) (m n : ℕ) → x ≡ y → m ≡ n → points_if x m ≡ points_if y n
points_sym x y m n e f = cc

profiles_264_sym : (a b : Option H264ProfileLevel) → h264.profiles_score a b ≡ h264.profiles_score b a
profiles_264_sym None None = refl
profiles_264_sym (Some a) (Some b) =
    points_sym _ _ _ _ (eq_sym (h264.profile_number a.profile) (h264.profile_number b.profile))
    (level_sym (h264.place a.level) (h264.place b.level))
profiles_264_sym None (Some b) = refl
profiles_264_sym (Some a) None = refl

h264_sym : (a b : FormatParams)
    → h264.h264_score (given_264 a) (given_264 b) ≡ h264.h264_score (given_264 b) (given_264 a)
h264_sym a b =
    choose _ _ _ _ None (eq_sym (unwrap_or a.packetization_mode 0) (unwrap_or b.packetization_mode 0))
    (profiles_264_sym (h264.level_given a.profile_level_id) (h264.level_given b.profile_level_id))

known_sym : {P L : Type 0} (id : P → ℕ) (place : L → ℕ) (a b : ProfileTierLevel P L)
    → levels.known_score id place a b ≡ levels.known_score id place b a
known_sym id place a b =
    points_sym _ _ _ _
    (both (eq_sym (id a.profile) (id b.profile)) (eq_sym (tier_flag a.tier) (tier_flag b.tier)))
    (level_sym (place a.level) (place b.level))

levels_sym : {P L : Type 0} (id : P → ℕ) (absent : P) (place : L → ℕ) (a : Option (ProfileTierLevel P L)) (p : Option ℕ)
    (b : Option (ProfileTierLevel P L)) (q : Option ℕ)
    → levels.levels_score id absent place a p b q ≡ levels.levels_score id absent place b q a p
levels_sym id absent place (Some a) p (Some b) q = known_sym id place a b
levels_sym {P} {L} id absent place None p None q =
    ap (λ t. points_if t 90)
    (eq_sym (levels.profile_alone {L = L} id absent None p) (levels.profile_alone {L = L} id absent None q))
levels_sym {P} {L} id absent place None p (Some b) q =
    ap (λ t. points_if t 90)
    (eq_sym (levels.profile_alone {L = L} id absent None p) (levels.profile_alone id absent (Some b) q))
levels_sym {P} {L} id absent place (Some a) p None q =
    ap (λ t. points_if t 90)
    (eq_sym (levels.profile_alone id absent (Some a) p) (levels.profile_alone {L = L} id absent None q))

vp9_sym : (a b : FormatParams) → vp9_score a b ≡ vp9_score b a
vp9_sym a b = ap (λ t. points_if t 100) (eq_sym (unwrap_or a.profile_id 0) (unwrap_or b.profile_id 0))

av1_sym : (a b : FormatParams) → av1_score a b ≡ av1_score b a
av1_sym a b =
    ap (λ t. points_if t 100)
    (both (both (eq_sym (unwrap_or a.profile 0) (unwrap_or b.profile 0))
    (eq_sym (unwrap_or a.level_idx 5) (unwrap_or b.level_idx 5))) (eq_sym (unwrap_or a.tier 0) (unwrap_or b.tier 0)))

format_score_sym : (c : Codec) (a b : FormatParams) → format_score c a b ≡ format_score c b a
format_score_sym Opus a b = ap (λ n. Some n) (opus_sym a b)
format_score_sym H264 a b = h264_sym a b
format_score_sym H265 a b =
    levels_sym profile_265.profile_id profile_265.fallback_profile levels.place_265
    a.h265_profile_tier_level a.profile_id b.h265_profile_tier_level b.profile_id
format_score_sym H266 a b =
    levels_sym profile_266.profile_id profile_266.fallback_profile levels.place_266
    a.h266_profile_tier_level a.profile_id b.h266_profile_tier_level b.profile_id
format_score_sym Vp9 a b = vp9_sym a b
format_score_sym Av1 a b = av1_sym a b
format_score_sym other a b = refl

codec_from_number : (a b : Codec) → codec_number a ≡ codec_number b → a ≡ b
codec_from_number a b e = grind (arith, common_steps)

settings_sym : (a b : CodecSpec) → a.codec ≡ b.codec → settings_score a b ≡ settings_score b a
settings_sym a b e =
    choose _ _ _ _ None (same_sym a.channels b.channels)
    (choose3 (same_format a.format b.format) (same_format b.format a.format) _ _ (Some 100)
    (format_sym a.format b.format)
    (format_score_sym a.codec a.format b.format ∙ ap (λ c. format_score c b.format a.format) e))
  where
    choose3 : (x y : Bool) (p q o : Option ℕ) → x ≡ y → p ≡ q → (if x then o else p) ≡ (if y then o else q)
    choose3 x y p q o f g = cc

codec_score_sym : (c : Codec) (a b : CodecSpec) → a.codec ≡ b.codec → codec_score c a b ≡ codec_score c b a
codec_score_sym Tele a b e = refl
codec_score_sym AmrWb a b e = amr_wb_sym a b
codec_score_sym other a b e = settings_sym a b e

score_at : (a b : CodecSpec) (t : Bool) → (is_codec a.codec b.codec && a.clock_rate == b.clock_rate) ≡ t
    → (if t then codec_score a.codec a b else None) ≡ (if t then codec_score b.codec b a else None)
score_at a b false e = refl
score_at a b true e =
    let n : codec_number a.codec ≡ codec_number b.codec = grind (arith, common_steps) in
    let same : a.codec ≡ b.codec = codec_from_number a.codec b.codec n in
    codec_score_sym a.codec a b same ∙ ap (λ c. codec_score c b a) same

pub score_symmetric : (a b : CodecSpec) → score a b ≡ score b a
unfolding score
score_symmetric a b =
    score_at a b (is_codec a.codec b.codec && a.clock_rate == b.clock_rate) refl
    ∙ ap (λ t. if t then codec_score b.codec b a else None)
    (both (eq_sym (codec_number a.codec) (codec_number b.codec)) (eq_sym a.clock_rate b.clock_rate))
