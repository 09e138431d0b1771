use Rattle.std.proofs.Common.{◌≡◌, Some, refl}
use Rattle.std.specs.Prelude.{slice_get}
use Rattle.media_types.specs.Tables.{place_of}
use Rattle.media_types.specs.H265Level.{level_id, levels}
use Rattle.media_types.specs.declared.h265.H265Level.{H265Level}
use Rattle.media_types.specs.declared.h265.H265Level.TheVariants.{Level1}
use Rattle.media_types.proofs.TableLaws.{is_rising}
use Rattle.media_types.proofs.h265.h265_tables_law.Goals as goal

-- each level is at its place
stands : (level : H265Level) → slice_get levels (place_of level_id levels level) ≡ Some level
stands Level1 = refl
stands _ = refl

pub returns-clause-rising : goal.returns-clause-rising
returns-clause-rising c = is_rising level_id levels _ stands refl
