-- What a match leaves of a plain row's settings is plain.
use Rattle.std.proofs.Common.{◌≡◌, ◌<◌, ◌≤◌, ◌^◌, ◌==◌, ℕ, Bool, true, false, ◌&&◌, ◌||◌, Option, Some, None, refl}
use Rattle.std.proofs.Common.{arith, inl, inr, min}
use Rattle.std.specs.Prelude.{◌⊎◌, IfSome, is_none, is_some, unwrap_or}
use Rattle.std.specs.Option.{option_or}
use Rattle.std.proofs.lemmas.Grind.{common_steps}
use Rattle.media_types.specs.declared.codec.Codec.{Codec}
use Rattle.media_types.specs.declared.codec.Codec.TheVariants.{AmrWb, H265, H266, Tele}
use Rattle.sdp_formats_rows.specs.FormatScores.{given_265, given_266}
use Rattle.sdp_formats_rows.specs.LevelScore.{GivenH265, GivenH266, agreed_by, h265_agreed, h266_agreed}
use Rattle.sdp_formats_rows.specs.LevelScore.{place_265, place_266}
use Rattle.sdp_formats_rows.specs.Formats.{no_format}
use Rattle.sdp_formats_rows.specs.Same.{same, same_flag, same_format, same_h264, same_levels, same_opus, same_video}
use Rattle.sdp_formats_rows.specs.declared.level_scores.GivenLevel.{GivenLevel}
use Rattle.sdp_formats_rows.specs.declared.format.FormatParams.{FormatParams}
use Rattle.sdp_formats_rows.specs.Codecs.{full_spec}
use Rattle.sdp_formats_rows.specs.Plain.{events_alone, has_plain_events, has_plain_level, is_plain_codec}
use Rattle.sdp_formats_rows.specs.declared.spec.CodecSpec.{CodecSpec}
use Rattle.sdp_formats_rounds.specs.Negotiated.{events_of, negotiated, negotiated_channels, negotiated_format}
use Rattle.sdp_formats_rounds.specs.Negotiated.{with_h265, with_h266}
use Rattle.sdp_formats_rounds.specs.PlainLaws.{IsSoundFormat}
use Rattle.sdp_formats_rounds.specs.Ranges.{AtMostOne, IsInRange, IsModes, OneLevel}

-- What a plain row's settings are.
pub record IsPlainSpec (spec : CodecSpec) : Type 0 where
  pub codec : is_plain_codec spec ≡ true
  pub events : has_plain_events spec ≡ true
  pub level : has_plain_level spec ≡ true
  pub ranges : IsInRange spec.format
  pub levels : OneLevel spec.format

either_some : (P : ℕ → Type 0) (a b : Option ℕ) → IfSome a P → IfSome b P → IfSome (option_or a b) P
either_some P None b h k = k
either_some P (Some n) b h k = h

events_below : (o other : Option ℕ) → IfSome o (λ n. n < 2 ^ 8)
    → min (unwrap_or o 16) (unwrap_or other 16) < 2 ^ 8
events_below None other h = omega arith
events_below (Some n) other h = omega arith

-- one range of events in the place of another
range_in : (a o q x y c d e : Bool) → (a && (o && q && x) && c && d && e) ≡ true → y ≡ true
    → (a && (o && q && y) && c && d && e) ≡ true
range_in a o q x y c d e h k = grind (arith, common_steps)

number_self : (n : ℕ) → (n == n) ≡ true
number_self n = grind (arith, common_steps)

-- no level of the other codec
no_second : {A : Type 0} (a : Bool) (o : Option A) → (a && (is_none o || false)) ≡ true → o ≡ None
no_second a None h = refl
no_second true (Some l) h = cc
no_second false (Some l) h = cc

no_first : {A : Type 0} (o : Option A) (b : Bool) → ((is_none o || false) && b) ≡ true → o ≡ None
no_first None b h = refl
no_first (Some l) b h = cc

one_of_two : {A B : Type 0} (a : Option A) (b : Option B) → b ≡ None → AtMostOne a b
one_of_two None b e = tt
one_of_two (Some l) None e = tt
one_of_two (Some l) (Some m) e = cc

none_of_two : {A B : Type 0} (a : Option A) (b : Option B) → a ≡ None → AtMostOne a b
none_of_two None b e = tt
none_of_two (Some l) b e = cc

-- a level or `profile-id` of its width, not both
pub record IsGiven {P L : Type 0} (a : GivenLevel P L) : Type 0 where
  pub profile : IfSome a.profile_id (λ n. n < 2 ^ 32)
  pub one : (a.level ≡ None) ⊎ (a.profile_id ≡ None)

agreed_given : {P L : Type 0} (place : L → ℕ) (ours : _) (theirs : GivenLevel P L) (t : _)
    → IfSome theirs.profile_id (λ n. n < 2 ^ 32) → IsGiven (agreed_by place ours theirs t)
agreed_given place ours theirs None h = record { profile = h; one = inl refl }
agreed_given place ours theirs (Some level) h = record { profile = tt; one = inr refl }

left_or : (a : Bool) → (a || true) ≡ true
left_or true = refl
left_or false = refl

both : (a b : Bool) → a ≡ true → b ≡ true → (a && b) ≡ true
both a b e f = rw (e, f) refl

is_missing : {A : Type 0} (o : Option A) → o ≡ None → (is_none o || false) ≡ true
is_missing None e = refl
is_missing (Some x) e = cc

h265_left : (rate : ℕ) (channels : Option ℕ) (f g : FormatParams) (a : GivenH265)
    → IsPlainSpec (full_spec H265 rate channels f) → IsSoundFormat g → IsGiven a
    → IsPlainSpec (full_spec H265 rate channels (with_h265 f g a))
h265_left rate channels f g a h s is =
    let missing : f.h266_profile_tier_level ≡ None
    = no_second (is_none f.h265_profile_tier_level || true) f.h266_profile_tier_level h.level in
    record {
      codec = h.codec;
      events = h.events;
      level = both _ _ (left_or (is_none a.level)) (is_missing f.h266_profile_tier_level missing);
      ranges = let r = h.ranges in (
        r.0,
        r.1,
        r.2,
        is.profile,
        r.4,
        r.5,
        r.6,
        either_some (λ n. n ≤ 32767) g.sprop_max_don_diff f.sprop_max_don_diff s.don_diff r.7,
        r.8,
        r.9,
      );
      levels = one is.one missing;
    }
  where
    one : (a.level ≡ None) ⊎ (a.profile_id ≡ None) → f.h266_profile_tier_level ≡ None → OneLevel (with_h265 f g a)
    one (inl e) missing = inl (e, missing)
    one (inr e) missing = inr (e, one_of_two a.level f.h266_profile_tier_level missing)

h266_left : (rate : ℕ) (channels : Option ℕ) (f g : FormatParams) (a : GivenH266)
    → IsPlainSpec (full_spec H266 rate channels f) → IsSoundFormat g → IsGiven a
    → IsPlainSpec (full_spec H266 rate channels (with_h266 f g a))
h266_left rate channels f g a h s is =
    let missing : f.h265_profile_tier_level ≡ None
    = no_first f.h265_profile_tier_level (is_none f.h266_profile_tier_level || true) h.level in
    record {
      codec = h.codec;
      events = h.events;
      level = both _ _ (is_missing f.h265_profile_tier_level missing) (left_or (is_none a.level));
      ranges = let r = h.ranges in (
        r.0,
        r.1,
        r.2,
        is.profile,
        r.4,
        r.5,
        r.6,
        either_some (λ n. n ≤ 32767) g.sprop_max_don_diff f.sprop_max_don_diff s.don_diff r.7,
        r.8,
        r.9,
      );
      levels = one is.one missing;
    }
  where
    one : (a.level ≡ None) ⊎ (a.profile_id ≡ None) → f.h265_profile_tier_level ≡ None → OneLevel (with_h266 f g a)
    one (inl e) missing = inl (missing, e)
    one (inr e) missing = inr (e, none_of_two f.h265_profile_tier_level a.level missing)

amr_left : (rate : ℕ) (channels theirs : Option ℕ) (f g : FormatParams)
    → IsPlainSpec (full_spec AmrWb rate channels f) → IsSoundFormat g
    → IsPlainSpec (full_spec AmrWb rate theirs (negotiated_format AmrWb f g))
amr_left rate channels theirs f g h s = record {
  codec = h.codec;
  events = h.events;
  level = h.level;
  ranges = let r = h.ranges in (
    r.0,
    r.1,
    r.2,
    r.3,
    r.4,
    r.5,
    r.6,
    r.7,
    r.8,
    either_some IsModes f.mode_set g.mode_set r.9 s.modes,
  );
  levels = h.levels;
}

events_left : (rate : ℕ) (channels : Option ℕ) (f g : FormatParams) → IsPlainSpec (full_spec Tele rate channels f)
    → IsPlainSpec (full_spec Tele rate channels (negotiated_format Tele f g))
events_left rate channels f g h = record {
  codec = h.codec;
  events = range_of f (is_some f.telephone_event_max) h.events;
  level = h.level;
  ranges = let r = h.ranges in (
    r.0,
    r.1,
    r.2,
    r.3,
    r.4,
    r.5,
    r.6,
    r.7,
    events_below f.telephone_event_max g.telephone_event_max r.8,
    r.9,
  );
  levels = h.levels;
}
  where
    alone : FormatParams → Bool
    alone f = same_format f (events_alone f)

    range_of : (f : FormatParams) (b : Bool) → (b && alone f) ≡ true
        → alone (record f { telephone_event_max = Some (min (events_of f) (events_of g)) }) ≡ true
    range_of f true e = range_in (same_opus f no_format) (same_flag f.octet_align None) (same f.mode_set None)
        (same f.telephone_event_max f.telephone_event_max) _ (same_h264 f no_format) (same_video f no_format)
        (same_levels f no_format) e (number_self (min (events_of f) (events_of g)))
    range_of f false e = cc

negotiated_plain : (codec : Codec) (rate : ℕ) (channels theirs : Option ℕ) (f g : FormatParams)
    → IsPlainSpec (full_spec codec rate channels f) → IsSoundFormat g
    → IsPlainSpec (full_spec codec rate (negotiated_channels codec channels theirs) (negotiated_format codec f g))
negotiated_plain Tele rate channels theirs f g h s = events_left rate channels f g h
negotiated_plain AmrWb rate channels theirs f g h s = amr_left rate channels theirs f g h s
negotiated_plain H265 rate channels theirs f g h s =
    h265_left rate channels f g (h265_agreed (given_265 f) (given_265 g)) h s
    (agreed_given place_265 f.h265_profile_tier_level (given_265 g) g.h265_profile_tier_level s.profile)
negotiated_plain H266 rate channels theirs f g h s =
    h266_left rate channels f g (h266_agreed (given_266 f) (given_266 g)) h s
    (agreed_given place_266 f.h266_profile_tier_level (given_266 g) g.h266_profile_tier_level s.profile)
negotiated_plain codec rate channels theirs f g h s = h

-- The settings after a match.
pub plain_left : (ours theirs : CodecSpec) → IsPlainSpec ours → IsSoundFormat theirs.format
    → IsPlainSpec (negotiated ours theirs)
unfolding negotiated
plain_left ours theirs h s =
    negotiated_plain ours.codec ours.clock_rate ours.channels theirs.channels ours.format theirs.format h s

pub same_codec : (ours theirs : CodecSpec) → (negotiated ours theirs).codec ≡ ours.codec
unfolding negotiated
same_codec ours theirs = refl
