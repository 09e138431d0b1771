use Rattle.h26x_payload_units.proofs.AggregateLaw.{aggregate_law}
use Rattle.h26x_payload_units.proofs.laws.aggregates_law.Goals as goal

pub returns : goal.returns
returns c = aggregate_law
