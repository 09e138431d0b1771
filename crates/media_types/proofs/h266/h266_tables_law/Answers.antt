use Rattle.std.proofs.Common.{◌≡◌, Some, refl}
use Rattle.std.specs.Prelude.{slice_get}
use Rattle.media_types.specs.Tables.{place_of}
use Rattle.media_types.specs.H266Level.{level_id, levels}
use Rattle.media_types.specs.declared.h266.H266Level.{H266Level}
use Rattle.media_types.specs.declared.h266.H266Level.TheVariants.{Level1}
use Rattle.media_types.proofs.TableLaws.{is_rising}
use Rattle.media_types.proofs.LevelsApart.{levels_apart}
use Rattle.media_types.proofs.h266.h266_tables_law.Goals as goal

-- each level is at its place
stands : (level : H266Level) → slice_get levels (place_of level_id levels level) ≡ Some level
stands Level1 = refl
stands _ = refl

pub returns-clause-rising : goal.returns-clause-rising
returns-clause-rising c = is_rising level_id levels _ stands refl

pub returns-clause-apart : goal.returns-clause-apart
returns-clause-apart c = levels_apart
