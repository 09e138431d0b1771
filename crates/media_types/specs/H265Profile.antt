-- The profiles of H.265, and their numbers in SDP (RFC 7798 7.1).
use Rattle.std.specs.Prelude.{ℕ, List, [], ◌∷◌}
use Rattle.media_types.specs.declared.h265.H265Profile.{H265Profile}
use Rattle.media_types.specs.declared.h265.H265Profile.TheVariants.{Main, Main10, MainStillPicture}
use Rattle.media_types.specs.declared.h265.H265Profile.TheVariants.{FormatRangeExtensions, HighThroughput}
use Rattle.media_types.specs.declared.h265.H265Profile.TheVariants.{MultiviewMain, ScalableMain, ThreeDMain}
use Rattle.media_types.specs.declared.h265.H265Profile.TheVariants.{ScreenContentCoding}
use Rattle.media_types.specs.declared.h265.H265Profile.TheVariants.{ScreenContentCodingExtensions}
use Rattle.media_types.specs.declared.h265.H265Profile.TheVariants.{HighThroughputScreenContentCoding}

abbrev pub profiles : List H265Profile
profiles = Main ∷ Main10 ∷ MainStillPicture ∷ FormatRangeExtensions ∷ HighThroughput ∷ MultiviewMain ∷ ScalableMain
    ∷ ThreeDMain ∷ ScreenContentCoding ∷ ScreenContentCodingExtensions ∷ HighThroughputScreenContentCoding ∷ []

abbrev pub profile_id : H265Profile → ℕ
profile_id Main = 1
profile_id Main10 = 2
profile_id MainStillPicture = 3
profile_id FormatRangeExtensions = 4
profile_id HighThroughput = 5
profile_id MultiviewMain = 6
profile_id ScalableMain = 7
profile_id ThreeDMain = 8
profile_id ScreenContentCoding = 9
profile_id ScreenContentCodingExtensions = 10
profile_id HighThroughputScreenContentCoding = 11

-- The default.
abbrev pub fallback_profile : H265Profile
fallback_profile = Main
