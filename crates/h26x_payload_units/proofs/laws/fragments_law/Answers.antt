use Rattle.h26x_payload_units.proofs.FragmentRunLemmas.{fragments_law}
use Rattle.h26x_payload_units.proofs.laws.fragments_law.Goals as goal

pub returns : goal.returns
returns c = fragments_law
