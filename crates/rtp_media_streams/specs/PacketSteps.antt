-- What becomes of a call for one datagram: a repair, or a packet that is sent on.
use Rattle.std.specs.Prelude.{◌≡◌, ◌≢◌, ℕ, List, Option, Some, None, Result, Ok, Err}
use Rattle.payload_core_base.specs.Outgoing.{Outgoing}
use Rattle.rtp_media_streams.specs.Forwarding.{after_packet, refusal_of_packet}
use Rattle.rtp_media_streams.specs.Repairing.{repair, with_repair}
use Rattle.rtp_media_streams.specs.Sending.{Sending, datagram_of}
use Rattle.rtp_media_streams.specs.declared.errors.ForwardError.{ForwardError}
use Rattle.rtp_media_streams.specs.declared.errors.ForwardError.TheVariants as forward_error
use Rattle.rtp_media_streams.specs.declared.errors.RepairError.{RepairError}
use Rattle.rtp_media_streams.specs.declared.errors.RepairError.TheVariants as repair_error

-- A call in a state: the datagram, or the first reason against it, lack of memory aside; the state after a datagram;
-- and the error for lack of memory.
pub record PacketStep (S E : Type 0) : Type 0 where
  pub before : S
  pub answer : Result (List ℕ) E
  pub next : S
  pub memory : E

-- The result and the state after it are those of the step; an error changes nothing.
abbrev pub MakesBy : {S E : Type 0} → PacketStep S E → S → Result (List ℕ) E → Type 0
MakesBy step after (Ok datagram) = (step.answer ≡ Ok datagram) × (after ≡ step.next)
MakesBy step after (Err e) = (e ≢ step.memory → step.answer ≡ Err e) × (after ≡ step.before)

-- A sending stream is asked for the repair of a datagram.
abbrev pub repair_step : Sending → List ℕ → PacketStep Sending RepairError
repair_step s datagram = record {
  before = s;
  answer = repair s datagram;
  next = with_repair s;
  memory = repair_error.Memory;
}

-- A datagram, unless there is a reason against it.
abbrev pub unless_refused : Option ForwardError → List ℕ → Result (List ℕ) ForwardError
unless_refused None datagram = Ok datagram
unless_refused (Some e) datagram = Err e

-- It is handed a packet to send on under a number.
abbrev pub packet_step : Sending → ℕ → Outgoing → PacketStep Sending ForwardError
packet_step s number o = record {
  before = s;
  answer = unless_refused (refusal_of_packet s number o) (datagram_of s number o);
  next = after_packet s number;
  memory = forward_error.Memory;
}
