use Rattle.rtp_wire.proofs.NameLaws.{IsKept-name}
use Rattle.rtp_wire.proofs.names.RidFromRefStr.from.Goals as goal

pub invariant_of-result : goal.invariant_of-result
invariant_of-result c = IsKept-name 8 _ _ c.as_bytes.result.now c.write_name-len.ensures.after
    c.write_name-len.ensures.count
