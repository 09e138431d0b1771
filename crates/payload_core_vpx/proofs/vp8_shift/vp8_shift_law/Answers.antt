use Rattle.payload_core_vpx.proofs.ShiftLaw.{continues, moves}
use Rattle.payload_core_vpx.proofs.vp8_shift.vp8_shift_law.Goals as goal

pub returns-clause-moved : goal.returns-clause-moved
returns-clause-moved c = moves

pub returns-clause-continues : goal.returns-clause-continues
returns-clause-continues c = continues
