-- The profiles of H.266, and their numbers in SDP (RFC 9328 7.2).
use Rattle.std.specs.Prelude.{ℕ, List, [], ◌∷◌}
use Rattle.media_types.specs.declared.h266.H266Profile.{H266Profile}
use Rattle.media_types.specs.declared.h266.H266Profile.TheVariants.{Main10, Main10_444}

abbrev pub profiles : List H266Profile
profiles = Main10 ∷ Main10_444 ∷ []

abbrev pub profile_id : H266Profile → ℕ
profile_id Main10 = 1
profile_id Main10_444 = 33

-- The default.
abbrev pub fallback_profile : H266Profile
fallback_profile = Main10
