-- No level number is shared by H.265 and H.266.
use Rattle.std.specs.Prelude.{◌≢◌}
use Rattle.media_types.specs.H265Level.{level_id as h265_level_id}
use Rattle.media_types.specs.H266Level.{level_id as h266_level_id}
use Rattle.media_types.specs.declared.h265.H265Level.{H265Level}
use Rattle.media_types.specs.declared.h266.H266Level.{H266Level}

-- No level of H.265 has the number of a level of H.266.
abbrev pub LevelsApart : Type 0
LevelsApart = (one : H265Level) (other : H266Level) → h265_level_id one ≢ h266_level_id other
