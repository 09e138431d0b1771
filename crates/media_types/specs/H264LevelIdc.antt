-- The levels of H.264 in rising order, and their level_idc: ten times the level (RFC 6184 8.1).
use Rattle.std.specs.Prelude.{ℕ, List, [], ◌∷◌}
use Rattle.media_types.specs.declared.h264.H264LevelIdc.{H264LevelIdc}
use Rattle.media_types.specs.declared.h264.H264LevelIdc.TheVariants.{Level1, Level1_1, Level1_2}
use Rattle.media_types.specs.declared.h264.H264LevelIdc.TheVariants.{Level1_3, Level2, Level2_1}
use Rattle.media_types.specs.declared.h264.H264LevelIdc.TheVariants.{Level2_2, Level3, Level3_1}
use Rattle.media_types.specs.declared.h264.H264LevelIdc.TheVariants.{Level3_2, Level4, Level4_1}
use Rattle.media_types.specs.declared.h264.H264LevelIdc.TheVariants.{Level4_2, Level5, Level5_1}
use Rattle.media_types.specs.declared.h264.H264LevelIdc.TheVariants.{Level5_2, Level6, Level6_1}
use Rattle.media_types.specs.declared.h264.H264LevelIdc.TheVariants.{Level6_2}

abbrev pub levels : List H264LevelIdc
levels = Level1 ∷ Level1_1 ∷ Level1_2 ∷ Level1_3 ∷ Level2 ∷ Level2_1 ∷ Level2_2 ∷ Level3 ∷ Level3_1 ∷ Level3_2
    ∷ Level4 ∷ Level4_1 ∷ Level4_2 ∷ Level5 ∷ Level5_1 ∷ Level5_2 ∷ Level6 ∷ Level6_1 ∷ Level6_2 ∷ []

abbrev pub level_idc : H264LevelIdc → ℕ
level_idc Level1 = 10
level_idc Level1_1 = 11
level_idc Level1_2 = 12
level_idc Level1_3 = 13
level_idc Level2 = 20
level_idc Level2_1 = 21
level_idc Level2_2 = 22
level_idc Level3 = 30
level_idc Level3_1 = 31
level_idc Level3_2 = 32
level_idc Level4 = 40
level_idc Level4_1 = 41
level_idc Level4_2 = 42
level_idc Level5 = 50
level_idc Level5_1 = 51
level_idc Level5_2 = 52
level_idc Level6 = 60
level_idc Level6_1 = 61
level_idc Level6_2 = 62
