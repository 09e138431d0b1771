-- Scores are 1 to 100.
use Rattle.std.proofs.Common.{◌≤◌, ℕ, Bool, true, false, ◌&&◌, ◌==◌, List, length, arith, lit≤}
use Rattle.std.proofs.Common.{Option, Some, None, IfSome, nat_lt, if◌then◌else◌}
use Rattle.std.specs.Prelude.{unwrap_or}
use Rattle.std.proofs.lemmas.List.Sums.{count_by-le-length}
use Rattle.media_types.specs.Tables.{place_of}
use Rattle.media_types.specs.H264LevelIdc as level_264
use Rattle.media_types.specs.declared.h264.H264LevelIdc.{H264LevelIdc}
use Rattle.media_types.specs.declared.h264.H264ProfileLevel.{H264ProfileLevel}
use Rattle.media_types.specs.H265Level as level_265
use Rattle.media_types.specs.H265Profile as profile_265
use Rattle.media_types.specs.H266Level as level_266
use Rattle.media_types.specs.H266Profile as profile_266
use Rattle.media_types.specs.declared.h265.H265Level.{H265Level}
use Rattle.media_types.specs.declared.h266.H266Level.{H266Level}
use Rattle.media_types.specs.declared.profile_tier_level.ProfileTierLevel.{ProfileTierLevel}
use Rattle.media_types.specs.declared.codec.Codec.{Codec}
use Rattle.media_types.specs.declared.codec.Codec.TheVariants.{Opus, AmrWb, H264, H265}
use Rattle.media_types.specs.declared.codec.Codec.TheVariants.{H266, Vp9, Av1, Tele}
use Rattle.sdp_formats_rows.specs.Points.{points_if, level_points}
use Rattle.sdp_formats_rows.specs.H264Score as h264
use Rattle.sdp_formats_rows.specs.LevelScore as levels
use Rattle.sdp_formats_rows.specs.declared.format.FormatParams.{FormatParams}
use Rattle.sdp_formats_rows.specs.declared.spec.CodecSpec.{CodecSpec}
use Rattle.sdp_formats_rows.specs.Codecs.{is_codec}
use Rattle.sdp_formats_rows.specs.Same.{same, same_flag, alike, same_format}
use Rattle.sdp_formats_rows.specs.FormatScores.{penalty, opus_score, modes_score, given_264}
use Rattle.sdp_formats_rows.specs.Scores.{is_mono, amr_wb_score}
use Rattle.sdp_formats_rows.specs.FormatScores.{format_score}
use Rattle.sdp_formats_rows.specs.Scores.{settings_score, codec_score, score}

abbrev InRange : Option ℕ → Type 0
InRange o = IfSome o (λ points. (1 ≤ points) × (points ≤ 100))

points_in : (b : Bool) (n : ℕ) → 1 ≤ n → n ≤ 100 → InRange (points_if b n)
points_in true n low high = (low, high)
points_in false n low high = tt

pick_in : (b : Bool) (o p : Option ℕ) → InRange o → InRange p → InRange (if b then o else p)
pick_in true o p h k = h
pick_in false o p h k = k

-- a place in a table that isn't long
place_in : {X : Type 0} (number : X → ℕ) (table : List X) (x : X) → length table ≤ 99 → place_of number table x ≤ 99
place_in number table x few = omega (count_by-le-length (λ y. nat_lt (number y) (number x)) table, few, arith)

place_264 : (x : H264LevelIdc) → h264.place x ≤ 99
place_264 x = place_in level_264.level_idc level_264.levels x (lit≤ tt)

place_265 : (x : H265Level) → levels.place_265 x ≤ 99
place_265 x = place_in level_265.level_id level_265.levels x (lit≤ tt)

place_266 : (x : H266Level) → levels.place_266 x ≤ 99
place_266 x = place_in level_266.level_id level_266.levels x (lit≤ tt)

level_low : (a b : ℕ) → a ≤ 99 → b ≤ 99 → 1 ≤ level_points a b
level_low a b h k = omega (h, k, arith)

level_high : (a b : ℕ) → level_points a b ≤ 100
level_high a b = omega arith

penalty_most : (b : Bool) (n : ℕ) → penalty b n ≤ n
penalty_most true n = omega arith
penalty_most false n = omega arith

opus_in : (a b : FormatParams) → (1 ≤ opus_score a b) × (opus_score a b ≤ 100)
opus_in a b =
    let p1 = penalty_most (same a.min_p_time b.min_p_time) 1 in
    let p2 = penalty_most (same_flag a.use_inband_fec b.use_inband_fec) 2 in
    let p4 = penalty_most (same_flag a.use_dtx b.use_dtx) 4 in
    let p8 = penalty_most (alike a.stereo b.stereo) 8 in
    let q8 = penalty_most (alike a.sprop_stereo b.sprop_stereo) 8 in
    (omega (p1, p2, p4, p8, q8, arith), omega arith)

modes_in : (a b : Option ℕ) → InRange (modes_score a b)
modes_in None None = (omega arith, omega arith)
modes_in (Some a) (Some b) = points_in (a == b) 99 (omega arith) (omega arith)
modes_in None (Some b) = (omega arith, omega arith)
modes_in (Some a) None = (omega arith, omega arith)

amr_wb_in : (a b : CodecSpec) → InRange (amr_wb_score a b)
amr_wb_in a b =
    pick_in (is_mono a && is_mono b && alike a.format.octet_align b.format.octet_align) _ None
    (modes_in a.format.mode_set b.format.mode_set) tt

profiles_in : (a b : Option H264ProfileLevel) → InRange (h264.profiles_score a b)
profiles_in None b = tt
profiles_in (Some a) None = tt
profiles_in (Some a) (Some b) =
    points_in (h264.same_profile a.profile b.profile) (level_points (h264.place a.level) (h264.place b.level))
    (level_low (h264.place a.level) (h264.place b.level) (place_264 a.level) (place_264 b.level))
    (level_high (h264.place a.level) (h264.place b.level))

h264_in : (a b : FormatParams) → InRange (h264.h264_score (given_264 a) (given_264 b))
h264_in a b =
    pick_in (unwrap_or a.packetization_mode 0 == unwrap_or b.packetization_mode 0) _ None
    (profiles_in (h264.level_given a.profile_level_id) (h264.level_given b.profile_level_id)) tt

levels_in : {P L : Type 0} (id : P → ℕ) (absent : P) (place : L → ℕ) → ((x : L) → place x ≤ 99)
    → (a : Option (ProfileTierLevel P L)) (p : Option ℕ) (b : Option (ProfileTierLevel P L)) (q : Option ℕ)
    → InRange (levels.levels_score id absent place a p b q)
levels_in id absent place few (Some a) p (Some b) q =
    points_in _ (level_points (place a.level) (place b.level))
    (level_low (place a.level) (place b.level) (few a.level) (few b.level))
    (level_high (place a.level) (place b.level))
levels_in id absent place few None p None q = points_in _ 90 (omega arith) (omega arith)
levels_in id absent place few None p (Some b) q = points_in _ 90 (omega arith) (omega arith)
levels_in id absent place few (Some a) p None q = points_in _ 90 (omega arith) (omega arith)

format_in : (c : Codec) (a b : FormatParams) → InRange (format_score c a b)
format_in Opus a b = opus_in a b
format_in H264 a b = h264_in a b
format_in H265 a b =
    levels_in profile_265.profile_id profile_265.fallback_profile levels.place_265 place_265
    a.h265_profile_tier_level a.profile_id b.h265_profile_tier_level b.profile_id
format_in H266 a b =
    levels_in profile_266.profile_id profile_266.fallback_profile levels.place_266 place_266
    a.h266_profile_tier_level a.profile_id b.h266_profile_tier_level b.profile_id
format_in Vp9 a b = points_in _ 100 (omega arith) (omega arith)
format_in Av1 a b = points_in _ 100 (omega arith) (omega arith)
format_in other a b = tt

settings_in : (a b : CodecSpec) → InRange (settings_score a b)
settings_in a b =
    pick_in (same a.channels b.channels) _ None
    (pick_in (same_format a.format b.format) (Some 100) _ (omega arith, omega arith)
    (format_in a.codec a.format b.format)) tt

codec_in : (c : Codec) (a b : CodecSpec) → InRange (codec_score c a b)
codec_in Tele a b = (omega arith, omega arith)
codec_in AmrWb a b = amr_wb_in a b
codec_in other a b = settings_in a b

pub score_in : (a b : CodecSpec) → IfSome (score a b) (λ points. (1 ≤ points) × (points ≤ 100))
unfolding score
score_in a b =
    pick_in (is_codec a.codec b.codec && a.clock_rate == b.clock_rate) _ None (codec_in a.codec a b) tt
