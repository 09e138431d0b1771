-- Samples with their times.
use Rattle.std.specs.Prelude.{ℕ, List, [], Result, Ok, Err}
use Rattle.payload_core_base.specs.Packing.{Sender, Sent}
use Rattle.payload_core_base.specs.declared.error.PacketError.{PacketError}
use Rattle.rtp_wire.specs.declared.values.ExtensionValues.{ExtensionValues}
use Rattle.payload_core_buffer.specs.Steps.{MediaUnit}

-- Bytes with their RTP timestamp (RFC 3550 5.1) and values of header extensions (RFC 8285): a sample, or a
-- unit without its numbers.
pub record Timed : Type 0 where
  pub time : ℕ
  pub values : ExtensionValues
  pub bytes : List ℕ

abbrev pub timed : ℕ → ExtensionValues → List ℕ → Timed
timed time values bytes = record { time = time; values = values; bytes = bytes }

-- A sample's result; a refused sample sends nothing and changes nothing.
abbrev pub sent_or : Sender → Result Sent PacketError → Sent
sent_or before (Ok sent) = sent
sent_or before (Err e) = record { packets = []; sender = before }

-- What is handed out, without its numbers and what its format tells beside.
abbrev pub timed_unit : Result MediaUnit PacketError → Result Timed PacketError
timed_unit (Ok u) = Ok (timed u.time u.values u.bytes)
timed_unit (Err e) = Err e
