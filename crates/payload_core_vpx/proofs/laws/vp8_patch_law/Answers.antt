use Rattle.payload_core_vpx.proofs.PatchLaw.{patch_law}
use Rattle.payload_core_vpx.proofs.laws.vp8_patch_law.Goals as goal

pub returns : goal.returns
returns c = patch_law
