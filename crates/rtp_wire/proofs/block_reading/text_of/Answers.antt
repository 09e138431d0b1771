use Rattle.std.proofs.lemmas.Str.{utf8_valid_len-IsUtf8}
use Rattle.rtp_wire.proofs.CarriedLaws.{eq-true}
use Rattle.rtp_wire.proofs.block_reading.text_of.Goals as goal

pub returns-in-Ok : goal.returns-in-Ok
returns-in-Ok c = (eq-true _ _ (utf8_valid_len-IsUtf8 _ c.in-Ok.ensures.cases.1), c.in-Ok.ensures.cases.0)
