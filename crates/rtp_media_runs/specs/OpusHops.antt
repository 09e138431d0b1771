-- One sample of Opus over two hops.
use Rattle.std.specs.Prelude.{ℕ, ◌≡◌, ◌<◌, ◌≤◌, List, [], ◌∷◌, length, true, Result, Ok, Err}
use Rattle.media_types.specs.declared.codec.Codec.TheVariants.{Opus}
use Rattle.payload_core_base.specs.declared.error.PacketError.{PacketError}
use Rattle.rtp_wire.specs.Carried.{AreValues}
use Rattle.payload_core_buffer.specs.Steps.{MediaUnit}
use Rattle.payload_core_buffer.specs.Buffered.{is_valid_capacity}
use Rattle.rtp_media_streams.specs.Sending.{Sample}
use Rattle.rtp_media_runs.specs.declared.schedule.Event.{Event}
use Rattle.rtp_media_runs.specs.declared.schedule.Event.TheVariants.{Arrive, Poll}
use Rattle.rtp_media_runs.specs.Hops.{Carries, Hop, limit_over, row_over}

-- The first datagram arrives, and the stream is polled twice.
abbrev pub one_arrival : List Event
one_arrival = Arrive 0 ∷ Poll ∷ Poll ∷ []

-- An Opus stream that may be opened, also with its capacity, and whose numbers start at 0.
pub record CarriesOpus (h : Hop) : Type 0 where
  pub opened : Carries h []
  pub opus : (row_over h).codec ≡ Opus
  pub first : h.params.first ≡ 0
  pub held : is_valid_capacity h.holding.held ≡ true

-- A sample that fits one packet.
pub record FitsPacket (h : Hop) (x : Sample) : Type 0 where
  pub some : 0 < length x.bytes
  pub fits : length x.bytes ≤ limit_over h
  pub values : AreValues x.values

-- The bytes of what is handed out.
abbrev pub bytes_out : Result MediaUnit PacketError → Result (List ℕ) PacketError
bytes_out (Ok u) = Ok u.bytes
bytes_out (Err e) = Err e
