-- A sending stream of a codec, without a session, and the datagrams its last sample left.
use Rattle.std.specs.Prelude.{ℕ, ◌≡◌, ◌≢◌, ◌==◌, ◌||◌, Bool, nat_lt, List, [], None}
use Rattle.std.specs.Prelude.{if◌then◌else◌}
use Rattle.rtp_wire.specs.Maps.{empty_map}
use Rattle.rtp_wire.specs.Time.{Time}
use Rattle.rtp_wire.specs.Values.{absent}
use Rattle.rtp_media_streams.specs.Sending.{HasFailed, Sending, opened_sender, sent_datagrams, after_sample}
use Rattle.rtp_media_streams.specs.Sending.{refusal_of_sample}
use Rattle.rtp_media_streams.specs.declared.types.PayloadTypes.{PayloadTypes}
use Rattle.jilqamur.specs.Codes.{ok, memory, out_of_range}
use Rattle.jilqamur.specs.StreamAnswers.{sample_outcome}
use Rattle.jilqamur.specs.Values.{if_given}
use Rattle.jilqamur.specs.Formats.{format_named, format_outcome}
use Rattle.jilqamur.specs.declared.format.WireFormat.{WireFormat}
use Rattle.jilqamur.specs.declared.outbox.WireSender.{WireSender}

pub record OutboxState : Type 0 where
  pub stream : Sending
  pub datagrams : List (List ℕ)

-- A type without redundancy.
abbrev pub type_alone : ℕ → PayloadTypes
type_alone pt = record { pt = pt; red = None; repair = None }

-- A stream that sent nothing, without header extensions and redundancy.
abbrev pub new_outbox : WireSender → WireFormat → List ℕ → OutboxState
new_outbox w format codec = record {
  stream = opened_sender w.ssrc (type_alone w.payload_type) empty_map (format_named format codec)
      (if_given w.has_picture_id w.picture_id) w.for_browsers w.first w.mtu w.limit;
  datagrams = [];
}

abbrev pub is_out_of_range : WireSender → Bool
is_out_of_range w = nat_lt 127 w.payload_type || (w.mtu == 0 || nat_lt 32767 w.picture_id)

-- The numbers are in range, and the format is valid.
abbrev pub sender_outcome : WireSender → WireFormat → List ℕ → ℕ
sender_outcome w format codec = if is_out_of_range w then out_of_range else format_outcome format codec

-- A time in ticks of the stream's clock.
abbrev pub time_at : Sending → ℕ → Time
time_at s ticks = record { ticks = ticks; rate = s.row.clock_rate }

-- What a sample answers.
pub record Pushes (p : OutboxState) (ticks : ℕ) (sample : List ℕ) (result : ℕ) (after : OutboxState) : Type 0 where
  pub outcome : result ≢ memory
      → result ≡ sample_outcome (refusal_of_sample p.stream (time_at p.stream ticks) absent sample)
  pub sent : result ≡ ok → after.datagrams ≡ sent_datagrams p.stream (time_at p.stream ticks) absent sample
  pub is_behind : result ≡ ok → after.stream ≡ after_sample p.stream (time_at p.stream ticks) absent sample
  pub keeps : result ≢ ok → after.datagrams ≡ p.datagrams
  pub stays : result ≢ ok → result ≢ memory → after.stream ≡ p.stream
  pub fails : result ≡ memory → HasFailed p.stream after.stream
