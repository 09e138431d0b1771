use Rattle.rtp_wire.proofs.WideningLaws.{widened7-IsNearest, widened8-IsNearest, widened15-IsNearest}
use Rattle.rtp_wire.proofs.WideningLaws.{widened16-IsNearest, widened32-IsNearest, widened7-near, widened8-near}
use Rattle.rtp_wire.proofs.WideningLaws.{widened15-near, widened16-near, widened32-near}
use Rattle.rtp_wire.proofs.value_laws.widening_laws.Goals as goal

pub returns-clause-nearest_u7 : goal.returns-clause-nearest_u7
returns-clause-nearest_u7 c = widened7-IsNearest

pub returns-clause-finds_u7 : goal.returns-clause-finds_u7
returns-clause-finds_u7 c = widened7-near

pub returns-clause-nearest_u8 : goal.returns-clause-nearest_u8
returns-clause-nearest_u8 c = widened8-IsNearest

pub returns-clause-finds_u8 : goal.returns-clause-finds_u8
returns-clause-finds_u8 c = widened8-near

pub returns-clause-nearest_u15 : goal.returns-clause-nearest_u15
returns-clause-nearest_u15 c = widened15-IsNearest

pub returns-clause-finds_u15 : goal.returns-clause-finds_u15
returns-clause-finds_u15 c = widened15-near

pub returns-clause-nearest_u16 : goal.returns-clause-nearest_u16
returns-clause-nearest_u16 c = widened16-IsNearest

pub returns-clause-finds_u16 : goal.returns-clause-finds_u16
returns-clause-finds_u16 c = widened16-near

pub returns-clause-nearest_u32 : goal.returns-clause-nearest_u32
returns-clause-nearest_u32 c = widened32-IsNearest

pub returns-clause-finds_u32 : goal.returns-clause-finds_u32
returns-clause-finds_u32 c = widened32-near
