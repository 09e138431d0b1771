-- The parameters of a plain row are such that they are read as they are printed.
use Rattle.std.proofs.Common.{◌≡◌, ◌≢◌, ◌<◌, ◌^◌, ℕ, Bool, true, false, ◌&&◌, cond, List, [], ◌∷◌, ◌++◌}
use Rattle.std.proofs.Common.{Option, Some, None, sym, ◌∙◌, ◌⊎◌, ⊎_elim}
use Rattle.std.proofs.Common.{IfSome, refl, subst, inl, inr, lit<, unwrap_or, is_none, is_some}
use Rattle.std.specs.Option.{option_map}
use Rattle.std.proofs.lemmas.Bool.Decides.{Decides-eqb}
use Rattle.media_types.specs.Codecs.{is_tele_codec}
use Rattle.sdp_formats_grammar.specs.Steps.{cons_same}
use Rattle.sdp_formats_reader.specs.AsRead.{is_level}
use Rattle.sdp_formats_values.specs.declared.param.FormatParam.{FormatParam}
use Rattle.sdp_formats_values.specs.declared.param.FormatParam.TheVariants as param
use Rattle.sdp_formats_rows.specs.Formats.{format_of}
use Rattle.sdp_formats_rows.specs.Plain.{comes_back, events_alone, has_plain_events, has_plain_feedback}
use Rattle.sdp_formats_rows.specs.Plain.{has_plain_level}
use Rattle.sdp_formats_rows.specs.Plain.{has_plain_red, has_plain_types, is_plain, is_plain_codec}
use Rattle.sdp_formats_rows.specs.Rows.{Row}
use Rattle.sdp_formats_rows.specs.Same.{same, same_flag, same_format, same_h264, same_levels, same_numbers, same_opus}
use Rattle.sdp_formats_rows.specs.Same.{same_speech, same_video}
use Rattle.sdp_formats_rows.specs.Texts.{format_text, numbers_265, numbers_266}
use Rattle.sdp_formats_rows.specs.declared.format.FormatParams.{FormatParams}
use Rattle.sdp_formats_section_rows.specs.Attributes.{params_in}
use Rattle.sdp_formats_rows.specs.Parameters.{params_of}
use Rattle.sdp_formats_laws.proofs.FormatRanges.{Apart, format_held}
use Rattle.sdp_formats_laws.proofs.FormatsBack.{format_readable}
use Rattle.sdp_formats_laws.specs.Keyed.{AreKeyed}
use Rattle.sdp_formats_laws.specs.ParameterLists.{AreReadable, HasOneLevel}
use Rattle.sdp_formats_rounds.specs.Ranges.{AtMostOne, IsInRange, OneLevel}

two_true : (a b : Bool) → (a && b) ≡ true → (a ≡ true) × (b ≡ true)
two_true true b h = (refl, h)
two_true false b h = absurd (cc)

same_some : (x y : Option ℕ) (P : ℕ → Type 0) → same x y ≡ true → IfSome x P → IfSome y P
same_some None None P h k = tt
same_some (Some a) (Some b) P h k = subst P ((Decides-eqb a b).0 h) k
same_some None (Some b) P h k = absurd (cc)
same_some (Some a) None P h k = tt

same_none : (x y : Option ℕ) → same x y ≡ true → x ≡ None → y ≡ None
same_none None None h e = refl
same_none (Some a) (Some b) h e = absurd (cc)
same_none None (Some b) h e = absurd (cc)
same_none (Some a) None h e = refl

no_numbers : {A : Type 0} (n : A → ℕ × ℕ × ℕ) (x y : Option A) → same_numbers (option_map n x) (option_map n y) ≡ true
    → x ≡ None → y ≡ None
no_numbers n None None h e = refl
no_numbers n (Some a) (Some b) h e = absurd (cc)
no_numbers n None (Some b) h e = absurd (cc)
no_numbers n (Some a) None h e = refl

at_most : {A B : Type 0} (m : A → ℕ × ℕ × ℕ) (n : B → ℕ × ℕ × ℕ) (a c : Option A) (b d : Option B)
    → same_numbers (option_map m a) (option_map m c) ≡ true → same_numbers (option_map n b) (option_map n d) ≡ true
    → AtMostOne a b → AtMostOne c d
at_most m n a None b d h k l = tt
at_most m n a (Some c) b None h k l = tt
at_most m n None (Some c) b (Some d) h k l = absurd (cc)
at_most m n (Some a) (Some c) None (Some d) h k l = absurd (cc)
at_most m n (Some a) (Some c) (Some b) (Some d) h k l = absurd l

-- what is the same as a format that a line gave
record SameParts (a f : FormatParams) : Type 0 where
  opus : same_opus a f ≡ true
  speech : same_speech a f ≡ true
  h264 : same_h264 a f ≡ true
  video : same_video a f ≡ true
  levels : same_levels a f ≡ true

parts_of : (a f : FormatParams) → same_format a f ≡ true → SameParts a f
parts_of a f h =
    let five = two_true (same_opus a f && same_speech a f && same_h264 a f && same_video a f) (same_levels a f) h in
    let four = two_true (same_opus a f && same_speech a f && same_h264 a f) (same_video a f) five.0 in
    let three = two_true (same_opus a f && same_speech a f) (same_h264 a f) four.0 in
    let two = two_true (same_opus a f) (same_speech a f) three.0 in
    record { opus = two.0; speech = two.1; h264 = three.1; video = four.1; levels = five.1 }

first_opus : (a f : FormatParams) → same_opus a f ≡ true → same a.min_p_time f.min_p_time ≡ true
first_opus a f h =
    let m = same a.min_p_time f.min_p_time in
    let s = same_flag a.stereo f.stereo in
    let p = same_flag a.sprop_stereo f.sprop_stereo in
    let u = same_flag a.use_inband_fec f.use_inband_fec in
    (two_true m s (two_true (m && s) p (two_true (m && s && p) u
    (two_true (m && s && p && u) (same_flag a.use_dtx f.use_dtx) h).0).0).0).0

record VideoParts (a f : FormatParams) : Type 0 where
  profile_id : same a.profile_id f.profile_id ≡ true
  profile : same a.profile f.profile ≡ true
  level_idx : same a.level_idx f.level_idx ≡ true
  tier : same a.tier f.tier ≡ true
  don : same a.sprop_max_don_diff f.sprop_max_don_diff ≡ true

video_parts : (a f : FormatParams) → same_video a f ≡ true → VideoParts a f
video_parts a f h =
    let i = same a.profile_id f.profile_id in
    let p = same a.profile f.profile in
    let l = same a.level_idx f.level_idx in
    let t = same a.tier f.tier in
    let five = two_true (i && p && l && t) (same a.sprop_max_don_diff f.sprop_max_don_diff) h in
    let four = two_true (i && p && l) t five.0 in
    let three = two_true (i && p) l four.0 in
    let two = two_true i p three.0 in
    record { profile_id = two.0; profile = two.1; level_idx = three.1; tier = four.1; don = five.1 }

in_range : (a f : FormatParams) → SameParts a f → IsInRange a → IsInRange f
in_range a f s h =
    let flag = same_flag a.octet_align f.octet_align in
    let modes = same a.mode_set f.mode_set in
    let speech = two_true (flag && modes) (same a.telephone_event_max f.telephone_event_max) s.speech in
    let set = two_true flag modes speech.0 in
    let asymmetry = same_flag a.level_asymmetry_allowed f.level_asymmetry_allowed in
    let mode = same a.packetization_mode f.packetization_mode in
    let three = two_true (asymmetry && mode) (same a.profile_level_id f.profile_level_id) s.h264 in
    let two = two_true asymmetry mode three.0 in
    let v = video_parts a f s.video in (
      same_some a.min_p_time f.min_p_time _ (first_opus a f s.opus) h.0,
      same_some a.packetization_mode f.packetization_mode _ two.1 h.1,
      same_some a.profile_level_id f.profile_level_id _ three.1 h.2,
      same_some a.profile_id f.profile_id _ v.profile_id h.3,
      same_some a.profile f.profile _ v.profile h.4,
      same_some a.level_idx f.level_idx _ v.level_idx h.5,
      same_some a.tier f.tier _ v.tier h.6,
      same_some a.sprop_max_don_diff f.sprop_max_don_diff _ v.don h.7,
      same_some a.telephone_event_max f.telephone_event_max _ speech.1 h.8,
      same_some a.mode_set f.mode_set _ set.1 h.9,
    )

one_level : (last : Bool) (a f : FormatParams) → SameParts a f → Apart last a → OneLevel f
one_level last a f s h =
    let five = same_numbers (option_map numbers_265 a.h265_profile_tier_level)
    (option_map numbers_265 f.h265_profile_tier_level) in
    let six = same_numbers (option_map numbers_266 a.h266_profile_tier_level)
    (option_map numbers_266 f.h266_profile_tier_level) in
    let two = two_true five six s.levels in
    by_last last h two (video_parts a f s.video).profile_id
  where
    by_last : (last : Bool) → Apart last a
        → (same_numbers (option_map numbers_265 a.h265_profile_tier_level)
        (option_map numbers_265 f.h265_profile_tier_level) ≡ true)
        × (same_numbers (option_map numbers_266 a.h266_profile_tier_level)
        (option_map numbers_266 f.h266_profile_tier_level) ≡ true)
        → same a.profile_id f.profile_id ≡ true → OneLevel f
    by_last true h two id = inr (
      same_none a.profile_id f.profile_id id h.0,
      at_most numbers_265 numbers_266 a.h265_profile_tier_level f.h265_profile_tier_level a.h266_profile_tier_level
          f.h266_profile_tier_level two.0 two.1 h.1,
    )
    by_last false h two id = inl (
      no_numbers numbers_265 a.h265_profile_tier_level f.h265_profile_tier_level two.0 h.0,
      no_numbers numbers_266 a.h266_profile_tier_level f.h266_profile_tier_level two.1 h.1,
    )

-- a plain row's format
pub plain_format : (f : FormatParams) → comes_back f ≡ true → IsInRange f × OneLevel f
plain_format f h =
    let a = format_of (format_text f) in
    let held = format_held (format_text f) in
    let s = parts_of a f h in
    (in_range a f s held.1.0, one_level held.0 a f s held.1.1)

most_small : (o : Option ℕ) → IfSome o (λ n. n < 2 ^ 8) → unwrap_or o 16 < 2 ^ 8
most_small None h = lit< tt
most_small (Some n) h = h

not_there : (o : Option ℕ) → is_none o ≡ true → o ≡ None
not_there None h = refl
not_there (Some n) h = absurd (cc)

-- the two kinds of lists that a format gives, neither of them one parameter alone that isn't known
abbrev pub IsKeyedOrLevel : List FormatParam → Type 0
IsKeyedOrLevel ps = AreKeyed ps ⊎ HasOneLevel ps

abbrev pub IsKnownReadable : List FormatParam → Type 0
IsKnownReadable ps = AreReadable ps × (ps ≢ param.Unknown ∷ [])

some_there : (front : List FormatParam) (p : FormatParam) (behind : List FormatParam) → front ++ p ∷ behind ≢ []
some_there [] p behind = λ e. cc
some_there (q ∷ front) p behind = λ e. cc

level_known : (front : List FormatParam) (level : FormatParam) (behind : List FormatParam) → is_level level ≡ true
    → front ++ level ∷ behind ≢ param.Unknown ∷ []
level_known [] level behind h = λ e.
    let one : false ≡ true = subst (λ l. is_level l ≡ true) (cons_same level param.Unknown behind [] e).0 h in
    absurd (cc)
level_known (p ∷ front) level behind h = λ e.
    some_there front level behind (cons_same p param.Unknown (front ++ level ∷ behind) [] e).1

known_list : (ps : List FormatParam) → IsKeyedOrLevel ps → ps ≢ param.Unknown ∷ []
known_list ps h = λ e. ⊎_elim
    (λ (k : AreKeyed ps). let one : AreKeyed (param.Unknown ∷ []) = subst AreKeyed e k in one.0)
    (λ (l : HasOneLevel ps). level_known l.front l.level l.behind l.is_one (sym l.list ∙ e)) h

readable_list : (ps : List FormatParam) → IsKeyedOrLevel ps → AreReadable ps
readable_list ps h = ⊎_elim (λ (k : AreKeyed ps). inl k) (λ (l : HasOneLevel ps). inr (inl l)) h

by_codec : (f : FormatParams) (tele : Bool)
    → cond tele (is_some f.telephone_event_max && same_format f (events_alone f)) (is_none f.telephone_event_max) ≡ true
    → IsInRange f → OneLevel f
    → IsKnownReadable (cond tele (param.TelephoneEvents (unwrap_or f.telephone_event_max 16) ∷ []) (params_of f))
by_codec f true e h levels = (inr (inr (most_small f.telephone_event_max h.8)), (λ s. cc))
by_codec f false e h levels = let list = format_readable f h levels (not_there f.telephone_event_max e) in
    (readable_list (params_of f) list, known_list (params_of f) list)

pub row_readable : (row : Row) → is_plain row ≡ true → IsKnownReadable (params_in row.spec)
row_readable row h =
    let four = has_plain_types row && is_plain_codec row.spec && has_plain_feedback row && has_plain_red row in
    let back = two_true (four && has_plain_events row.spec && has_plain_level row.spec)
    (comes_back row.spec.format) h in
    let level = two_true (four && has_plain_events row.spec) (has_plain_level row.spec) back.0 in
    let events = two_true four (has_plain_events row.spec) level.0 in
    let plain = plain_format row.spec.format back.1 in
    by_codec row.spec.format (is_tele_codec row.spec.codec) events.1 plain.0 plain.1
