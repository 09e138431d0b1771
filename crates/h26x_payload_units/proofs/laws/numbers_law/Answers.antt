use Rattle.h26x_payload_units.proofs.NumberLemmas.{numbers_law}
use Rattle.h26x_payload_units.proofs.laws.numbers_law.Goals as goal

pub returns : goal.returns
returns c = numbers_law
