use Rattle.sdp_formats_laws.proofs.LastValues.{last_of}
use Rattle.sdp_formats_laws.proofs.repeated_keys.last_value_law.Goals as goal

pub returns : goal.returns
returns c = last_of
