use Rattle.std.proofs.Common.{subst, sym}
use Rattle.payload_core_buffer.specs.Slots.{OpensBut}
use Rattle.payload_core_buffer.proofs.QueueLemmas.{opens_drop}
use Rattle.payload_core_buffer.proofs.queue.Queue.take_first.Goals as goal

pub reopen-requires-clause-opens : goal.reopen-requires-clause-opens
reopen-requires-clause-opens c = subst (OpensBut 0) (sym c.pop_first-first.ensures.gone)
    (opens_drop c.args.self.now.slots.items 1 c.requires.opens)
