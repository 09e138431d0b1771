use Rattle.std.proofs.Common.{arith}
use Rattle.std.proofs.lemmas.Grind.{common_steps}
use Rattle.sdp_formats_reader.proofs.maps.rtcp_fb.Goals as goal

pub returns : goal.returns
returns c = grind (arith, common_steps)
