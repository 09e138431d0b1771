use Rattle.std.proofs.Common.{arith}
use Rattle.payload_core_buffer.proofs.QueueLemmas.{count_put, opens_put, seen_behind}
use Rattle.payload_core_buffer.proofs.SlotLemmas.{whole_le}
use Rattle.payload_core_buffer.specs.Slots.{opened}
use Rattle.payload_core_buffer.proofs.queue.Queue.put_last.Goals as goal

pub count_with-self-requires : goal.count_with-self-requires
count_with-self-requires c =
    let slots = c.args.self.now.slots in
    omega (arith, whole_le slots.items, c.requires.counted, slots.ok.0, slots.small.0, slots.small.1)

pub invariant_of-self : goal.invariant_of-self
invariant_of-self c = record {
  is_seen = seen_behind c.args.self.now.slots.items c.push_back.new.self.items c.args.self.now.seen
      (opened c.args.held c.opens_last-is_open.result) c.args.self.now.is_seen (c.in-Ok.ensures.items);
}

pub returns-clause-opens : goal.returns-clause-opens
returns-clause-opens c =
    opens_put c.args.self.now.slots.items c.push_back.new.self.items c.args.held c.opens_last-is_open.result
    c.requires.opens c.opens_last-is_open.ensures c.in-Ok.ensures.items

pub returns-clause-counted : goal.returns-clause-counted
returns-clause-counted c =
    count_put c.args.self.now.slots.items c.push_back.new.self.items c.args.held c.opens_last-is_open.result
    c.args.self.now.complete c.count_with-self.result c.requires.counted c.in-Ok.ensures.items c.count_with-self.ensures
