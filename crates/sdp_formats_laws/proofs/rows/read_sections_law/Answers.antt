use Rattle.sdp_formats_laws.proofs.SaysSame.{says_same}
use Rattle.sdp_formats_laws.proofs.rows.read_sections_law.Goals as goal

pub returns : goal.returns
returns c = says_same
