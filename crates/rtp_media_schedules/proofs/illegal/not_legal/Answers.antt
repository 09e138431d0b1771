use Rattle.rtp_media_schedules.proofs.NotLegal.{no-fault, of-two-samples, out-of-order, without-its-end}
use Rattle.rtp_media_schedules.proofs.illegal.not_legal.Goals as goal

pub returns-clause-out_of_order : goal.returns-clause-out_of_order
returns-clause-out_of_order c = out-of-order

pub returns-clause-of_two_samples : goal.returns-clause-of_two_samples
returns-clause-of_two_samples c = of-two-samples

pub returns-clause-without_its_end : goal.returns-clause-without_its_end
returns-clause-without_its_end c = without-its-end

pub returns-clause-fault : goal.returns-clause-fault
returns-clause-fault c = no-fault
