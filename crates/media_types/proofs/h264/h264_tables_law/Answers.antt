use Rattle.std.proofs.Common.{◌≡◌, Some, refl}
use Rattle.std.specs.Prelude.{slice_get}
use Rattle.media_types.specs.Tables.{place_of, with_number}
use Rattle.media_types.specs.H264LevelIdc.{level_idc, levels}
use Rattle.media_types.specs.declared.h264.H264LevelIdc.{H264LevelIdc}
use Rattle.media_types.specs.declared.h264.H264LevelIdc.TheVariants.{Level1}
use Rattle.media_types.proofs.RowLaws.{has_one_row}
use Rattle.media_types.proofs.TableLaws.{is_rising, is_table}
use Rattle.media_types.proofs.h264.h264_tables_law.Goals as goal

own : (level : H264LevelIdc) → with_number level_idc levels (level_idc level) ≡ Some level
own Level1 = refl
own _ = refl

-- each level is at its place
stands : (level : H264LevelIdc) → slice_get levels (place_of level_idc levels level) ≡ Some level
stands Level1 = refl
stands _ = refl

pub returns-clause-one_row : goal.returns-clause-one_row
returns-clause-one_row c = has_one_row

pub returns-clause-levels : goal.returns-clause-levels
returns-clause-levels c = is_table level_idc levels own

pub returns-clause-rising : goal.returns-clause-rising
returns-clause-rising c = is_rising level_idc levels _ stands refl
