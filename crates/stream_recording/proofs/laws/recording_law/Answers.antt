use Rattle.stream_recording.proofs.Ordering.{ends, in_order, steps}
use Rattle.stream_recording.proofs.laws.recording_law.Goals as goal

pub returns-clause-in_order : goal.returns-clause-in_order
returns-clause-in_order c = in_order

pub returns-clause-steps : goal.returns-clause-steps
returns-clause-steps c = steps

pub returns-clause-ends : goal.returns-clause-ends
returns-clause-ends c = ends
