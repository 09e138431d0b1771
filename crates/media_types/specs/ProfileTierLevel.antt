-- A profile, tier and level of a codec, and its three numbers in SDP (RFC 7798 7.1, RFC 9328 7.2), given how the codec
-- maps numbers to profiles and levels.
use Rattle.std.specs.Prelude.{◌≡◌, ℕ, List, Option, Some, None, unwrap_or}
use Rattle.media_types.specs.Tables.{with_number}
use Rattle.media_types.specs.Tier.{tier_flag, tiers}
use Rattle.media_types.specs.Values.{given_or}
use Rattle.media_types.specs.declared.profile_tier_level.ProfileTierLevel.{ProfileTierLevel}
use Rattle.media_types.specs.declared.tier.Tier.{Tier}
use Rattle.media_types.specs.declared.tier.Tier.TheVariants.{Main}

-- The three together, if each is known.
abbrev pub together : {P L : Type 0} → Option P → Option Tier → Option L → Option (ProfileTierLevel P L)
together (Some profile) (Some tier) (Some level) = Some (record { profile = profile; tier = tier; level = level })
together _ _ _ = None

-- The meaning of three numbers, if each is in its table.
abbrev pub known : {P L : Type 0} → (ℕ → Option P) → (ℕ → Option L) → ℕ → ℕ → ℕ → Option (ProfileTierLevel P L)
known profile_of level_of id flag level = together (profile_of id) (with_number tier_flag tiers flag) (level_of level)

-- The default: the main tier, and the codec's default profile and level.
abbrev pub fallback : {P L : Type 0} → P → L → ProfileTierLevel P L
fallback profile level = record { profile = profile; tier = Main; level = level }

-- The meaning of three numbers, or else the default.
abbrev pub known_or_fallback : {P L : Type 0} → (ℕ → Option P) → (ℕ → Option L) → P → L → ℕ × ℕ × ℕ
    → ProfileTierLevel P L
known_or_fallback profile_of level_of profile level numbers =
    unwrap_or (known profile_of level_of numbers.0 numbers.1 numbers.2) (fallback profile level)

-- What three values that could be read mean.
abbrev pub known_values : {P L : Type 0} → (ℕ → Option P) → (ℕ → Option L) → Option ℕ → Option ℕ → Option ℕ
    → Option (ProfileTierLevel P L)
known_values profile_of level_of (Some id) (Some flag) (Some level) = known profile_of level_of id flag level
known_values _ _ _ _ _ = None

-- The meaning of three optional values, each an 8-bit number. A missing one defaults to this profile's number, the main
-- tier's, or this level's.
abbrev pub given : {P L : Type 0} → (ℕ → Option P) → (ℕ → Option L) → ℕ → ℕ → Option (List ℕ) → Option (List ℕ)
    → Option (List ℕ) → Option (ProfileTierLevel P L)
given profile_of level_of absent_profile absent_level id flag level = known_values profile_of level_of
    (given_or absent_profile id) (given_or (tier_flag Main) flag) (given_or absent_level level)

-- The same with another level.
abbrev pub at_level : {P L : Type 0} → ProfileTierLevel P L → L → ProfileTierLevel P L
at_level ptl level = record ptl { level = level }

-- A value's three numbers decode to that value.
abbrev pub ComesBack : {P L : Type 0} → (P → ℕ) → (ℕ → Option P) → (L → ℕ) → (ℕ → Option L) → Type 0
ComesBack {P} {L} profile_id profile_of level_id level_of = (ptl : ProfileTierLevel P L)
    → known profile_of level_of (profile_id ptl.profile) (tier_flag ptl.tier) (level_id ptl.level) ≡ Some ptl
