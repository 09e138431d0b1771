use Rattle.sdp_formats_laws.proofs.StaticTypes.{static_types_agree}
use Rattle.sdp_formats_laws.proofs.rows.static_types_law.Goals as goal

pub returns : goal.returns
returns c = static_types_agree
