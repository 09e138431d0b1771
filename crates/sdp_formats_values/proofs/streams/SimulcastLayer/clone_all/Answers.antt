use Rattle.std.proofs.Common.{arith}
use Rattle.std.proofs.lemmas.Grind.{common_steps}
use Rattle.sdp_formats_values.proofs.streams.SimulcastLayer.clone_all.Goals as goal

pub loop-layer-preserved : goal.loop-layer-preserved
loop-layer-preserved c = grind (arith, common_steps)

pub returns : goal.returns
returns c = grind (arith, common_steps)
