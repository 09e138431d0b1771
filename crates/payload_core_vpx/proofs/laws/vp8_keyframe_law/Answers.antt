use Rattle.payload_core_vpx.proofs.KeyframeLaw.{keyframe_law}
use Rattle.payload_core_vpx.proofs.laws.vp8_keyframe_law.Goals as goal

pub returns : goal.returns
returns c = keyframe_law
