use Rattle.std.proofs.Common.{◌≡◌, ℕ, Some, arith, length, subst}
use Rattle.payload_core_buffer.specs.Buffered.{packets_above}
use Rattle.payload_core_buffer.specs.Packets.{packets_of}
use Rattle.payload_core_buffer.specs.Slots.{IsBuffered}
use Rattle.payload_core_buffer.proofs.PassLemmas.{passed-buffered, passed-packets}
use Rattle.payload_core_buffer.proofs.PlaceLemmas.{counted_from}
use Rattle.payload_core_buffer.proofs.take.pass.Goals as goal

pub drop_front-requires-clause-counted : goal.drop_front-requires-clause-counted
drop_front-requires-clause-counted g c =
    let hs = c.args.queue.now.slots.items in
    (counted_from (g.D.Depacketizer.format c.args.depacketizer.now) (length hs) c.args.queue.now.complete hs
    (c.requires (length hs) (omega arith)).queue).counted

pub returns-clause-held : goal.returns-clause-held
returns-clause-held g c limit le =
    subst (λ (n : ℕ). IsBuffered (g.D.Depacketizer.format c.args.depacketizer.now) limit
    c.drop_front.new.self.slots.items c.drop_front.new.self.complete (Some n)) c.get.ensures
    (passed-buffered (g.D.Depacketizer.format c.args.depacketizer.now) c.args.queue.now.slots.items
    c.drop_front.new.self.slots.items c.count_up_to-count.result c.get.result c.count_up_to-count.ensures.within
    c.count_up_to-count.ensures.before c.count_up_to-count.ensures.after c.drop_front.ensures.same
    c.drop_front.new.self.complete (c.requires limit le).queue.slots
    (record { opens = c.drop_front.ensures.opens; counted = c.drop_front.ensures.counted }) limit le)

pub returns-clause-packets : goal.returns-clause-packets
returns-clause-packets g c =
    subst (λ (n : ℕ). packets_of c.drop_front.new.self.slots.items
    ≡ packets_above n (packets_of c.args.queue.now.slots.items)) c.get.ensures
    (passed-packets (g.D.Depacketizer.format c.args.depacketizer.now) c.args.queue.now.slots.items
    c.drop_front.new.self.slots.items c.count_up_to-count.result c.get.result c.count_up_to-count.ensures.within
    c.count_up_to-count.ensures.before c.count_up_to-count.ensures.after c.drop_front.ensures.same)
