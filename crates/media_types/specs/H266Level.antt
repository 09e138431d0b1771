-- The levels of H.266 in rising order, and their numbers in SDP (RFC 9328 7.2).
use Rattle.std.specs.Prelude.{ℕ, List, [], ◌∷◌}
use Rattle.media_types.specs.declared.h266.H266Level.{H266Level}
use Rattle.media_types.specs.declared.h266.H266Level.TheVariants.{Level1, Level2, Level2_1, Level3}
use Rattle.media_types.specs.declared.h266.H266Level.TheVariants.{Level3_1, Level4, Level4_1, Level5}
use Rattle.media_types.specs.declared.h266.H266Level.TheVariants.{Level5_1, Level5_2, Level6, Level6_1}
use Rattle.media_types.specs.declared.h266.H266Level.TheVariants.{Level6_2, Level6_3, Level15_5}

abbrev pub levels : List H266Level
levels = Level1 ∷ Level2 ∷ Level2_1 ∷ Level3 ∷ Level3_1 ∷ Level4 ∷ Level4_1 ∷ Level5 ∷ Level5_1 ∷ Level5_2 ∷ Level6
    ∷ Level6_1 ∷ Level6_2 ∷ Level6_3 ∷ Level15_5 ∷ []

abbrev pub level_id : H266Level → ℕ
level_id Level1 = 16
level_id Level2 = 32
level_id Level2_1 = 35
level_id Level3 = 48
level_id Level3_1 = 51
level_id Level4 = 64
level_id Level4_1 = 67
level_id Level5 = 80
level_id Level5_1 = 83
level_id Level5_2 = 86
level_id Level6 = 96
level_id Level6_1 = 99
level_id Level6_2 = 102
level_id Level6_3 = 105
level_id Level15_5 = 255

-- The default.
abbrev pub fallback_level : H266Level
fallback_level = Level3_1
