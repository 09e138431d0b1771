use Rattle.payload_core_buffer.proofs.PassLemmas.{after-it, up-to}
use Rattle.payload_core_buffer.proofs.QueueLemmas.{rising_lt}
use Rattle.payload_core_buffer.proofs.queue.Queue.count_up_to.Goals as goal

pub returns-in-Ok-clause-before : goal.returns-in-Ok-clause-before
returns-in-Ok-clause-before c =
    up-to c.args.self.now.slots.items (rising_lt c.args.self.now.slots.items c.requires) c.in-Ok.place c.args.number
    c.in-Ok.ensures.within c.in-Ok.ensures.held

pub returns-in-Ok-clause-after : goal.returns-in-Ok-clause-after
returns-in-Ok-clause-after c =
    after-it c.args.self.now.slots.items (rising_lt c.args.self.now.slots.items c.requires) c.in-Ok.place c.args.number
    c.in-Ok.ensures.within c.in-Ok.ensures.held
