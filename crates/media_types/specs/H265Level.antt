-- The levels of H.265 in rising order, and their numbers in SDP (RFC 7798 7.1).
use Rattle.std.specs.Prelude.{ℕ, List, [], ◌∷◌}
use Rattle.media_types.specs.declared.h265.H265Level.{H265Level}
use Rattle.media_types.specs.declared.h265.H265Level.TheVariants.{Level1, Level2, Level2_1, Level3}
use Rattle.media_types.specs.declared.h265.H265Level.TheVariants.{Level3_1, Level4, Level4_1, Level5}
use Rattle.media_types.specs.declared.h265.H265Level.TheVariants.{Level5_1, Level5_2, Level6, Level6_1}
use Rattle.media_types.specs.declared.h265.H265Level.TheVariants.{Level6_2}

abbrev pub levels : List H265Level
levels = Level1 ∷ Level2 ∷ Level2_1 ∷ Level3 ∷ Level3_1 ∷ Level4 ∷ Level4_1 ∷ Level5 ∷ Level5_1 ∷ Level5_2 ∷ Level6
    ∷ Level6_1 ∷ Level6_2 ∷ []

abbrev pub level_id : H265Level → ℕ
level_id Level1 = 30
level_id Level2 = 60
level_id Level2_1 = 63
level_id Level3 = 90
level_id Level3_1 = 93
level_id Level4 = 120
level_id Level4_1 = 123
level_id Level5 = 150
level_id Level5_1 = 153
level_id Level5_2 = 156
level_id Level6 = 180
level_id Level6_1 = 183
level_id Level6_2 = 186

-- The default.
abbrev pub fallback_level : H265Level
fallback_level = Level3_1
