use Rattle.std.proofs.Common.{arith}
use Rattle.std.proofs.lemmas.Grind.{common_steps}
use Rattle.payload_core_av1.proofs.av1_elements.are_units.Goals as goal

pub loop-element-init : goal.loop-element-init
loop-element-init c = grind (arith, common_steps)

pub returns-then-not-is_unit : goal.returns-then-not-is_unit
returns-then-not-is_unit c = grind (arith, common_steps)

pub loop-element-preserved : goal.loop-element-preserved
loop-element-preserved c = grind (arith, common_steps)

pub returns : goal.returns
returns c = grind (arith, common_steps)
