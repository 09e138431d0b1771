use Rattle.std.proofs.Common.{refl}
use Rattle.media_files_captures.specs.Numbers.{u32_le}
use Rattle.media_files.specs.Superframe.{superframe_index}
use Rattle.media_files.proofs.laws.superframe_rows.Goals as goal

pub returns-clause-three : goal.returns-clause-three
unfolding superframe_index u32_le
returns-clause-three c = refl

pub returns-clause-two : goal.returns-clause-two
unfolding superframe_index u32_le
returns-clause-two c = refl

pub returns-clause-single : goal.returns-clause-single
unfolding superframe_index u32_le
returns-clause-single c = refl

pub returns-clause-many : goal.returns-clause-many
unfolding superframe_index u32_le
returns-clause-many c = refl
