-- A receiving stream of a codec, without a session, and the unit its last poll left.
use Rattle.std.specs.Prelude.{ℕ, ◌≡◌, ◌≢◌, Bool, List, Option, Some, None}
use Rattle.rtp_wire.specs.Maps.{empty_map}
use Rattle.rtp_wire.specs.Values.{absent}
use Rattle.payload_core_buffer.specs.Buffered.{Holding}
use Rattle.payload_core_buffer.specs.Steps.{MediaUnit}
use Rattle.payload_core_buffer.specs.Steps.{PollStep}
use Rattle.rtp_media_streams.specs.Limits.{kept_within}
use Rattle.rtp_media_streams.specs.Passing.{passed_to}
use Rattle.rtp_media_streams.specs.Polls.{drain_step, given, poll_step}
use Rattle.rtp_media_streams.specs.Receiving.{Receiving, arrived, opened_receiver, taken_number, with_stream}
use Rattle.jilqamur.specs.Codes.{ok, memory, refused}
use Rattle.jilqamur.specs.StreamAnswers.{poll_code, unit_behind}
use Rattle.jilqamur.specs.Formats.{format_named}
use Rattle.jilqamur.specs.Outboxes.{type_alone}
use Rattle.jilqamur.specs.declared.format.WireFormat.{WireFormat}

pub record InboxState : Type 0 where
  pub stream : Receiving
  pub unit : Option MediaUnit

-- A stream that took nothing.
abbrev pub new_inbox : WireFormat → List ℕ → Holding → InboxState
new_inbox format codec holding = record {
  stream = opened_receiver 0 (type_alone 0) empty_map (format_named format codec) holding;
  unit = None;
}

-- The stream once all numbers up to one are passed, and once it is kept within a limit of bytes.
abbrev pub passed_inbox : ℕ → InboxState → InboxState
passed_inbox number p = record p { stream = with_stream p.stream (passed_to number p.stream.stream) }

abbrev pub limited_inbox : ℕ → InboxState → InboxState
limited_inbox bytes p = record p { stream = with_stream p.stream (kept_within bytes p.stream.stream) }

-- The number of a packet, and the widened number that it was taken under.
abbrev pub take_outcome : Option ℕ → ℕ
take_outcome None = refused
take_outcome (Some number) = ok

abbrev pub IsTaken : Option ℕ → ℕ → Type 0
IsTaken None number = Unit {0}
IsTaken (Some taken) number = number ≡ taken

-- The result for a packet with this sequence number, timestamp, marker bit and payload.
pub record Takes (p : InboxState) (low time : ℕ) (marker : Bool) (payload : List ℕ) (result number : ℕ)
    (after : InboxState) : Type 0 where
  pub outcome : result ≢ memory → result ≡ take_outcome (taken_number p.stream.stream low)
  pub taken : result ≢ memory → IsTaken (taken_number p.stream.stream low) number
  pub is_behind : result ≢ memory
      → after.stream ≡ with_stream p.stream (arrived p.stream.stream low time marker absent payload)
  pub stays : result ≡ memory → after.stream ≡ p.stream
  pub unit : after.unit ≡ p.unit

-- What a poll answers by the stream's step; if memory runs out for a unit that is ready, its frame stays.
pub record AnswersPoll (p : InboxState) (step : PollStep Receiving) (result : ℕ) (after : InboxState) : Type 0 where
  pub number : result ≢ memory → result ≡ poll_code (given step.answer)
  pub unit_is : result ≢ memory → after.unit ≡ unit_behind (given step.answer) p.unit
  pub is_behind : result ≢ memory → after.stream ≡ step.next
  pub keeps : result ≡ memory → after.unit ≡ p.unit
  pub stops : result ≡ memory → step.Stopped after.stream

abbrev pub Polls : InboxState → ℕ → InboxState → Type 0
Polls p result after = AnswersPoll p (poll_step p.stream) result after

abbrev pub Drains : InboxState → ℕ → InboxState → Type 0
Drains p result after = AnswersPoll p (drain_step p.stream) result after
