use Rattle.media_files.proofs.LawLemmas.{low_bits, near-ahead, near-behind}
use Rattle.media_files.proofs.laws.time_laws.Goals as goal

pub returns-clause-low_bits : goal.returns-clause-low_bits
returns-clause-low_bits c = low_bits

pub returns-clause-ahead : goal.returns-clause-ahead
returns-clause-ahead c = near-ahead

pub returns-clause-behind : goal.returns-clause-behind
returns-clause-behind c = near-behind
