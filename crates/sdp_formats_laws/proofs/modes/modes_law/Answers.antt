use Rattle.sdp_formats_laws.proofs.ModeBits.{modes_listed, others_none}
use Rattle.sdp_formats_laws.proofs.modes.modes_law.Goals as goal

pub returns : goal.returns
returns c = record { listed = modes_listed; otherwise = others_none }
