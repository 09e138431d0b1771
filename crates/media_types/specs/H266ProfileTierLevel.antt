-- What three numbers mean as a profile, a tier and a level of H.266 (RFC 9328 7.2).
use Rattle.std.specs.Prelude.{ℕ, List, Option}
use Rattle.media_types.specs.Tables.{with_number}
use Rattle.media_types.specs.H266Level.{fallback_level, level_id, levels}
use Rattle.media_types.specs.H266Profile.{fallback_profile, profile_id, profiles}
use Rattle.media_types.specs.ProfileTierLevel as ptl
use Rattle.media_types.specs.declared.h266.H266Level.{H266Level}
use Rattle.media_types.specs.declared.h266.H266Profile.{H266Profile}
use Rattle.media_types.specs.declared.profile_tier_level.ProfileTierLevel.{ProfileTierLevel}

abbrev pub H266ProfileTierLevel : Type 0
H266ProfileTierLevel = ProfileTierLevel H266Profile H266Level

abbrev pub profile_of : ℕ → Option H266Profile
profile_of id = with_number profile_id profiles id

abbrev pub level_of : ℕ → Option H266Level
level_of id = with_number level_id levels id

-- The default: 1, 0 and 51.
abbrev pub fallback : H266ProfileTierLevel
fallback = ptl.fallback fallback_profile fallback_level

-- The meaning of three numbers, or else the default.
abbrev pub known_or_fallback : ℕ × ℕ × ℕ → H266ProfileTierLevel
known_or_fallback numbers = ptl.known_or_fallback profile_of level_of fallback_profile fallback_level numbers

-- The meaning of three optional values, each an 8-bit number; the defaults are 1, 0 and 51.
abbrev pub given : Option (List ℕ) → Option (List ℕ) → Option (List ℕ) → Option H266ProfileTierLevel
given id flag level = ptl.given profile_of level_of (profile_id fallback_profile) (level_id fallback_level) id
    flag level

-- A value's three numbers decode to that value.
abbrev pub ComesBack : Type 0
ComesBack = ptl.ComesBack profile_id profile_of level_id level_of
