use Rattle.rtp_wire.proofs.RepairLaws as laws
use Rattle.rtp_wire.proofs.repairs_laws.repair_laws.Goals as goal

pub returns-clause-reads : goal.returns-clause-reads
returns-clause-reads c map d h pt number ssrc is e = laws.reads map d h pt number ssrc is e

pub returns-clause-payload : goal.returns-clause-payload
returns-clause-payload c map d h pt number ssrc is e = laws.payload map d h pt number ssrc is e

pub returns-clause-wraps : goal.returns-clause-wraps
returns-clause-wraps c map d h pt number ssrc byte body is e some =
    laws.wraps map d h pt number ssrc is e byte body some

pub returns-clause-len : goal.returns-clause-len
returns-clause-len c map d h pt number ssrc is e = laws.len map d h pt number ssrc is e
