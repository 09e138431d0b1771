use Rattle.payload_core_buffer.proofs.TakeLemmas.{buffered_none}
use Rattle.payload_core_buffer.proofs.buffer.DepacketizingBuffer.starting.Goals as goal

pub invariant_of-result : goal.invariant_of-result
invariant_of-result g c = (
  c.requires,
  buffered_none (g.D.Depacketizer.format c.args.depacketizer) c.args.held c.new.result.complete
      c.new.result.slots.items c.args.cutoff c.new.ensures.slots c.new.ensures.complete,
)
