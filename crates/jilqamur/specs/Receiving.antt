-- What calls of receiving streams answer.
use Rattle.std.specs.Prelude.{ℕ, ◌≡◌, ◌≢◌, List, length, Option}
use Rattle.rtp_wire.specs.Name.{name_of}
use Rattle.payload_core_buffer.specs.Buffered.{Holding, is_valid_capacity}
use Rattle.payload_core_buffer.specs.Steps.{MediaUnit}
use Rattle.payload_core_buffer.specs.Steps.{PollStep}
use Rattle.rtp_media_streams.specs.Polls.{drain_step, given, poll_step}
use Rattle.rtp_media_streams.specs.Receiving.{Receiving}
use Rattle.rtp_media_ends.specs.EndArrivals.{verdict_of, after_datagram}
use Rattle.rtp_media_ends.specs.Ends.{AtReceiver, EndState, is_receiver_at, receiver_at, with_receiver}
use Rattle.rtp_media_ends.specs.Ends.{after_open_receiver}
use Rattle.rtp_media_ends.specs.Ends.{refusal_of_open_receiver, refusal_of_open_unsignalled}
use Rattle.rtp_media_ends.specs.declared.errors.OpenError.{OpenError}
use Rattle.rtp_media_stream_table.specs.declared.received.Received.{Received}
use Rattle.rtp_media_stream_table.specs.declared.received.Received.TheVariants as received
use Rattle.jilqamur.specs.StreamAnswers.{poll_code, unit_behind}
use Rattle.jilqamur.specs.Codes.{ok, memory, unreadable, foreign, damaged, refused}
use Rattle.jilqamur.specs.Codes.{no_stream, out_of_range}
use Rattle.jilqamur.specs.Refusals.{open_outcome}
use Rattle.rtp_media_ends.specs.Stops.{Where}

-- The result of opening a receiving stream whose capacity is allowed, if it is refused for this reason.
pub record OpensReceiver (refusal : Option OpenError) (e : EndState) (mid : List ℕ) (ssrc pt : ℕ) (holding : Holding)
    (result stream : ℕ) (after : EndState) : Type 0 where
  pub outcome : result ≢ memory → result ≡ open_outcome refusal
  pub number : result ≡ ok → stream ≡ length e.streams
  pub opened : result ≡ ok → after ≡ after_open_receiver e (name_of 16 mid) ssrc pt holding
  pub stays : result ≢ ok → after ≡ e

-- What opening a receiving stream answers.
abbrev pub AnswersReceiver : EndState → List ℕ → ℕ → ℕ → Holding → ℕ → ℕ → EndState → Type 0
AnswersReceiver e mid ssrc pt holding result stream after = Where (is_valid_capacity holding.held)
    (OpensReceiver (refusal_of_open_receiver e (name_of 16 mid) ssrc pt) e mid ssrc pt holding result stream after)
    ((result ≡ out_of_range) × (after ≡ e))

-- What opening one in a section whose sender may name no SSRC answers.
abbrev pub AnswersUnsignalled : EndState → List ℕ → ℕ → ℕ → Holding → ℕ → ℕ → EndState → Type 0
AnswersUnsignalled e mid ssrc pt holding result stream after = Where (is_valid_capacity holding.held)
    (OpensReceiver (refusal_of_open_unsignalled e (name_of 16 mid) ssrc pt) e mid ssrc pt holding result stream after)
    ((result ≡ out_of_range) × (after ≡ e))

-- The number of a verdict on a datagram.
abbrev pub verdict_code : Received → ℕ
verdict_code received.Unreadable = unreadable
verdict_code received.Foreign = foreign
verdict_code received.Damaged = damaged
verdict_code received.Refused = refused
verdict_code (received.Taken stream number) = ok

-- The stream that took it, and its widened number.
abbrev pub IsTakenAs : Received → ℕ → ℕ → Type 0
IsTakenAs (received.Taken s n) stream number = (stream ≡ s) × (number ≡ n)
IsTakenAs verdict stream number = Unit {0}

-- What receiving a datagram answers.
pub record Receives (e : EndState) (datagram : List ℕ) (result stream number : ℕ) (after : EndState) : Type 0 where
  pub verdict : result ≢ memory → result ≡ verdict_code (verdict_of e datagram)
  pub taken : result ≢ memory → IsTakenAs (verdict_of e datagram) stream number
  pub is_behind : result ≢ memory → after ≡ after_datagram e datagram
  pub stays : result ≡ memory → after ≡ e

-- The result of a poll, by its stream's step; if memory runs out for a unit that is ready, its frame stays in the
-- buffer.
pub record AnswersPoll (e : EndState) (n : ℕ) (step : Receiving → PollStep Receiving) (before : Option MediaUnit)
    (result : ℕ) (unit : Option MediaUnit) (after : EndState) : Type 0 where
  pub number : result ≢ memory → result ≡ poll_code (given (step (receiver_at e n)).answer)
  pub unit_is : result ≢ memory → unit ≡ unit_behind (given (step (receiver_at e n)).answer) before
  pub is_behind : result ≢ memory → after ≡ with_receiver e n (step (receiver_at e n)).next
  pub keeps : result ≡ memory → unit ≡ before
  pub stops : result ≡ memory → AtReceiver e n (λ r s. (step r).Stopped s) after

-- No receiving stream has this number.
abbrev pub HasNoStream : EndState → Option MediaUnit → ℕ → Option MediaUnit → EndState → Type 0
HasNoStream e before result unit after = (result ≡ no_stream) × (unit ≡ before) × (after ≡ e)

-- What a poll, and a drain, of a stream answer.
abbrev pub Polls : EndState → ℕ → Option MediaUnit → ℕ → Option MediaUnit → EndState → Type 0
Polls e n before result unit after = Where (is_receiver_at e n)
    (AnswersPoll e n poll_step before result unit after) (HasNoStream e before result unit after)

abbrev pub Drains : EndState → ℕ → Option MediaUnit → ℕ → Option MediaUnit → EndState → Type 0
Drains e n before result unit after = Where (is_receiver_at e n)
    (AnswersPoll e n drain_step before result unit after) (HasNoStream e before result unit after)
