use Rattle.rtp_wire.proofs.PaddingLaws.{taken_off, was_padded}
use Rattle.rtp_wire.proofs.laws.padding_laws.Goals as goal

pub returns-clause-taken_off : goal.returns-clause-taken_off
returns-clause-taken_off c = taken_off

pub returns-clause-was_padded : goal.returns-clause-was_padded
returns-clause-was_padded c = was_padded
