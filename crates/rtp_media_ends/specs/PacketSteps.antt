-- A stream of an end is asked for one datagram.
use Rattle.std.specs.Prelude.{ℕ, List}
use Rattle.payload_core_base.specs.Outgoing.{Outgoing}
use Rattle.rtp_media_streams.specs.PacketSteps.{PacketStep, packet_step, repair_step}
use Rattle.rtp_media_streams.specs.Sending.{Sending}
use Rattle.rtp_media_streams.specs.declared.ForwardError.{ForwardError}
use Rattle.rtp_media_streams.specs.declared.RepairError.{RepairError}
use Rattle.rtp_media_ends.specs.Ends.{EndState, sender_at, with_sender}

-- A call for one datagram at the n-th stream; nothing else changes.
abbrev pub step_at : {E : Type 0} → EndState → ℕ → PacketStep Sending E → PacketStep EndState E
step_at e n step = record {
  before = e;
  answer = step.answer;
  next = with_sender e n step.next;
  memory = step.memory;
}

-- The n-th stream is asked for a repair, or handed a packet to send on under a number.
abbrev pub repair_step_at : EndState → ℕ → List ℕ → PacketStep EndState RepairError
repair_step_at e n datagram = step_at e n (repair_step (sender_at e n) datagram)

abbrev pub packet_step_at : EndState → (n number : ℕ) → Outgoing → PacketStep EndState ForwardError
packet_step_at e n number o = step_at e n (packet_step (sender_at e n) number o)
