use Rattle.std.proofs.Common.{refl}
use Rattle.media_files.proofs.RowLemmas.{lacing-total}
use Rattle.media_files.proofs.laws.lacing_laws.Goals as goal

pub returns-clause-total : goal.returns-clause-total
returns-clause-total c = lacing-total

pub returns-clause-one_more : goal.returns-clause-one_more
returns-clause-one_more c = refl

pub returns-clause-two_more : goal.returns-clause-two_more
returns-clause-two_more c = refl

pub returns-clause-one_less : goal.returns-clause-one_less
returns-clause-one_less c = refl
