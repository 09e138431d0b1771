use Rattle.sdp_formats_rounds.proofs.Small.{types_stay_small}
use Rattle.sdp_formats_rounds.proofs.type_laws.types_stay_small.Goals as goal

pub returns : goal.returns
returns c = types_stay_small
