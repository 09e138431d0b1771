use Rattle.payload_core_buffer.proofs.SizeLemmas.{above, all, fits}
use Rattle.payload_core_buffer.proofs.laws.bytes_law.Goals as goal

pub returns-clause-fits : goal.returns-clause-fits
returns-clause-fits c = fits

pub returns-clause-all : goal.returns-clause-all
returns-clause-all c = all

pub returns-clause-above : goal.returns-clause-above
returns-clause-above c = above
