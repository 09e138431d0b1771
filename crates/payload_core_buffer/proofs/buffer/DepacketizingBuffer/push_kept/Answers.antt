use Rattle.std.proofs.Common.{sym, ◌∙◌}
use Rattle.std.specs.Prelude.{slice_range}
use Rattle.payload_core_buffer.specs.Packets.{packet_from, rtp_meta}
use Rattle.payload_core_buffer.proofs.TakeLemmas.{buffered_kept, some_held}
use Rattle.payload_core_buffer.proofs.buffer.DepacketizingBuffer.push_kept.Goals as goal

pub keep-requires-clause-some : goal.keep-requires-clause-some
keep-requires-clause-some g c = some_held c.self.inside.held c.self.invariant.0

pub keep-requires-clause-queue : goal.keep-requires-clause-queue
keep-requires-clause-queue g c = c.self.invariant.1.queue

pub invariant_of-self : goal.invariant_of-self
invariant_of-self g c = (
  c.self.invariant.0,
  buffered_kept (g.D.Depacketizer.format c.self.inside.depacketizer) c.self.inside.held c.self.inside.queue.complete
      c.keep.new.queue.complete c.self.inside.cutoff c.self.inside.queue.slots.items
      c.keep.new.queue.slots.items
      (packet_from (rtp_meta c.args.meta) (slice_range c.args.datagram.items c.args.start c.args.end))
      c.keep.result
      c.self.invariant.1 c.keep.ensures.queue
      c.keep.ensures.kept c.keep.ensures.unchanged (sym c.is_done.ensures ∙ c.if-is_done.false),
)
