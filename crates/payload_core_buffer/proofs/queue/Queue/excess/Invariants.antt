use Rattle.std.proofs.Common.{◌≡◌, ◌+◌, ◌-◌, drop}
use Rattle.payload_core_buffer.specs.Packets.{packets_of}
use Rattle.payload_core_buffer.specs.Sizes.{bytes_of}
use Rattle.payload_core_buffer.proofs.queue.Queue.excess.Given as goal

-- what is left of the limit by the packets so far, which are the last ones
abbrev pub invariant-loop-i : goal.invariant-loop-i
invariant-loop-i l = l.room + bytes_of (drop (l.len - l.i) (packets_of l.self.slots.items)) ≡ l.bytes
