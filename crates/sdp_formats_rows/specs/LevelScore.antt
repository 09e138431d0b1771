-- How well two sides' H.265 (or H.266) settings match, and what a match agrees on (RFC 7798 7.1, RFC 9328 7.2), given
-- the codec's profile numbers and level order.
use Rattle.std.specs.Prelude.{ℕ, ◌%◌, nat_le, ◌&&◌, ◌==◌, Option, Some, None, unwrap_or}
use Rattle.std.specs.Prelude.{if◌then◌else◌}
use Rattle.media_types.specs.Tables.{place_of}
use Rattle.media_types.specs.H265Level as h265
use Rattle.media_types.specs.H265Profile as profile_265
use Rattle.media_types.specs.H266Level as h266
use Rattle.media_types.specs.H266Profile as profile_266
use Rattle.media_types.specs.declared.h265.H265Level.{H265Level}
use Rattle.media_types.specs.declared.h265.H265Profile.{H265Profile}
use Rattle.media_types.specs.declared.h266.H266Level.{H266Level}
use Rattle.media_types.specs.declared.h266.H266Profile.{H266Profile}
use Rattle.media_types.specs.ProfileTierLevel.{at_level}
use Rattle.media_types.specs.Tier.{tier_flag}
use Rattle.media_types.specs.declared.profile_tier_level.ProfileTierLevel.{ProfileTierLevel}
use Rattle.sdp_formats_rows.specs.declared.level_scores.GivenLevel.{GivenLevel}
use Rattle.sdp_formats_rows.specs.Points.{level_points, points_if}

-- Both give a profile, tier and level: the profile and tier must be the same; different levels cost their distance.
abbrev pub known_score : {P L : Type 0} → (P → ℕ) → (L → ℕ) → ProfileTierLevel P L → ProfileTierLevel P L → Option ℕ
known_score profile_id place a b =
    points_if (profile_id a.profile == profile_id b.profile && tier_flag a.tier == tier_flag b.tier)
    (level_points (place a.level) (place b.level))

-- The profile: that of the profile, tier and level if given; or else the low eight bits of a bare `profile-id`; or else
-- the default.
abbrev pub profile_alone : {P L : Type 0} → (P → ℕ) → P → Option (ProfileTierLevel P L) → Option ℕ → ℕ
profile_alone profile_id fallback (Some ptl) bare = profile_id ptl.profile
profile_alone profile_id fallback None bare = unwrap_or bare (profile_id fallback) % 256

-- If a side gives no level, 90 points for the same profile.
abbrev pub levels_score : {P L : Type 0} → (P → ℕ) → P → (L → ℕ) → Option (ProfileTierLevel P L) → Option ℕ
    → Option (ProfileTierLevel P L) → Option ℕ → Option ℕ
levels_score profile_id fallback place (Some a) p (Some b) q = known_score profile_id place a b
levels_score {P} {L} profile_id fallback place None p b q =
    points_if (profile_alone {L = L} profile_id fallback None p == profile_alone profile_id fallback b q) 90
levels_score {P} {L} profile_id fallback place (Some a) p None q =
    points_if (profile_alone profile_id fallback (Some a) p == profile_alone {L = L} profile_id fallback None q) 90

abbrev pub score : {P L : Type 0} → (P → ℕ) → P → (L → ℕ) → GivenLevel P L → GivenLevel P L → Option ℕ
score profile_id fallback place a b = levels_score profile_id fallback place a.level a.profile_id b.level b.profile_id

-- The other side's, at the lower of both levels.
abbrev pub lower_level : {L : Type 0} → (L → ℕ) → L → L → L
lower_level place a b = if nat_le (place a) (place b) then a else b

abbrev pub lowered : {P L : Type 0} → (L → ℕ) → Option (ProfileTierLevel P L) → ProfileTierLevel P L
    → ProfileTierLevel P L
lowered place None theirs = theirs
lowered place (Some ours) theirs = at_level theirs (lower_level place ours.level theirs.level)

-- What a match agrees on: what the other side gives, at the lower of both levels.
abbrev pub agreed_by : {P L : Type 0} → (L → ℕ) → Option (ProfileTierLevel P L) → GivenLevel P L
    → Option (ProfileTierLevel P L) → GivenLevel P L
agreed_by place ours theirs None = record { level = None; profile_id = theirs.profile_id }
agreed_by place ours theirs (Some level) = record { level = Some (lowered place ours level); profile_id = None }

abbrev pub agreed : {P L : Type 0} → (L → ℕ) → GivenLevel P L → GivenLevel P L → GivenLevel P L
agreed place ours theirs = agreed_by place ours.level theirs theirs.level

-- H.265 and H.266.
abbrev pub GivenH265 : Type 0
GivenH265 = GivenLevel H265Profile H265Level

abbrev pub GivenH266 : Type 0
GivenH266 = GivenLevel H266Profile H266Level

abbrev pub place_265 : H265Level → ℕ
place_265 level = place_of h265.level_id h265.levels level

abbrev pub place_266 : H266Level → ℕ
place_266 level = place_of h266.level_id h266.levels level

abbrev pub h265_score : GivenH265 → GivenH265 → Option ℕ
h265_score a b = score profile_265.profile_id profile_265.fallback_profile place_265 a b

abbrev pub h266_score : GivenH266 → GivenH266 → Option ℕ
h266_score a b = score profile_266.profile_id profile_266.fallback_profile place_266 a b

abbrev pub h265_agreed : GivenH265 → GivenH265 → GivenH265
h265_agreed ours theirs = agreed place_265 ours theirs

abbrev pub h266_agreed : GivenH266 → GivenH266 → GivenH266
h266_agreed ours theirs = agreed place_266 ours theirs
