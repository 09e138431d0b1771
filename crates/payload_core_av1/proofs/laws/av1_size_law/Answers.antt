use Rattle.payload_core_av1.proofs.SpellingLaw.{spelling_law}
use Rattle.payload_core_av1.proofs.laws.av1_size_law.Goals as goal

pub returns : goal.returns
returns c = spelling_law
