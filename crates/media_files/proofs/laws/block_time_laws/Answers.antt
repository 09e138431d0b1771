use Rattle.media_files.proofs.RowLemmas.{block-after, block-own, block-within}
use Rattle.media_files.proofs.laws.block_time_laws.Goals as goal

pub returns-clause-own : goal.returns-clause-own
returns-clause-own c = block-own

pub returns-clause-after : goal.returns-clause-after
returns-clause-after c = block-after

pub returns-clause-within : goal.returns-clause-within
returns-clause-within c = block-within
