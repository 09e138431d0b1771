-- What calls of sending streams answer.
use Rattle.std.specs.Prelude.{ℕ, ◌≡◌, ◌≢◌, ◌==◌, Bool, List, [], ◌∷◌, length, Option, Some, None}
use Rattle.std.specs.Prelude.{if◌then◌else◌, Result, Ok, Err}
use Rattle.rtp_wire.specs.Name.{name_of}
use Rattle.rtp_wire.specs.Time.{Time}
use Rattle.rtp_wire.specs.declared.values.ExtensionValues.{ExtensionValues}
use Rattle.rtp_media_streams.specs.Sending.{sent_datagrams, after_sample, refusal_of_sample}
use Rattle.rtp_media_ends.specs.Ends.{EndState, agreed_red, after_open_sender, refusal_of_open_sender}
use Rattle.rtp_media_ends.specs.Ends.{is_sender_at, sender_at, with_sender}
use Rattle.rtp_media_ends.specs.Params.{is_sound_params}
use Rattle.rtp_media_ends.specs.declared.StreamParams.{StreamParams}
use Rattle.rtp_media_streams.specs.Repairing.{repair, with_repair}
use Rattle.rtp_media_streams.specs.declared.errors.RepairError.{RepairError}
use Rattle.rtp_media_streams.specs.declared.errors.RepairError.TheVariants as repair_error
use Rattle.jilqamur.specs.Codes.{ok, memory, out_of_range, no_stream, no_repair, not_own, limit_too_small}
use Rattle.jilqamur.specs.Values.{values_given}
use Rattle.jilqamur.specs.declared.values.WireValues.{WireValues}
use Rattle.jilqamur.specs.StreamAnswers.{sample_outcome}
use Rattle.rtp_media_ends.specs.Stops.{SenderFails, Where}
use Rattle.jilqamur.specs.Refusals.{open_outcome}

-- Whether the parameters are valid for the agreed row.
abbrev pub is_sound_for : EndState → List ℕ → ℕ → StreamParams → Bool
is_sound_for e mid pt params = is_sound_params (agreed_red e (name_of 16 mid) pt) params

pub record OpensSender (e : EndState) (mid : List ℕ) (ssrc pt : ℕ) (params : StreamParams) (result stream : ℕ)
    (after : EndState) : Type 0 where
  pub outcome : result ≢ memory → result ≡ open_outcome (refusal_of_open_sender e (name_of 16 mid) ssrc pt)
  pub number : result ≡ ok → stream ≡ length e.streams
  pub opened : result ≡ ok → after ≡ after_open_sender e (name_of 16 mid) ssrc pt params
  pub stays : result ≢ ok → after ≡ e

-- Parameters that aren't sound are refused first.
abbrev pub IsUnsound : EndState → ℕ → EndState → Type 0
IsUnsound e result after = (result ≡ out_of_range) × (after ≡ e)

-- What opening a sending stream answers.
abbrev pub AnswersSender : EndState → List ℕ → ℕ → ℕ → StreamParams → ℕ → ℕ → EndState → Type 0
AnswersSender e mid ssrc pt params result stream after = Where (is_sound_for e mid pt params)
    (OpensSender e mid ssrc pt params result stream after) (IsUnsound e result after)

-- A timestamp in ticks of the clock of the stream's row.
abbrev pub time_at : EndState → ℕ → ℕ → Time
time_at e n ticks = record { ticks = ticks; rate = (sender_at e n).row.clock_rate }

-- The header extensions of a sample: those given, and the section's mid, if any (RFC 9143 15).
abbrev pub mid_of : List ℕ → Option (List ℕ)
mid_of text = if length text == 0 then None else Some (name_of 16 text)

abbrev pub values_of : WireValues → List ℕ → ExtensionValues
values_of w mid = values_given w (mid_of mid)

pub record Sends (e : EndState) (n : ℕ) (time : Time) (values : ExtensionValues) (sample : List ℕ) (result : ℕ)
    (datagrams : List (List ℕ)) (after : EndState) : Type 0 where
  pub outcome : result ≢ memory → result ≡ sample_outcome (refusal_of_sample (sender_at e n) time values sample)
  pub sent : result ≡ ok → datagrams ≡ sent_datagrams (sender_at e n) time values sample
  pub is_behind : result ≡ ok → after ≡ with_sender e n (after_sample (sender_at e n) time values sample)
  pub stays : result ≢ ok → result ≢ memory → after ≡ e
  pub fails : result ≡ memory → SenderFails e n after

-- No sending stream has this number.
abbrev pub HasNoSender : EndState → ℕ → EndState → Type 0
HasNoSender e result after = (result ≡ no_stream) × (after ≡ e)

-- What a sample at a stream answers.
abbrev pub AnswersSample : EndState → ℕ → ℕ → WireValues → List ℕ → List ℕ → ℕ → List (List ℕ) → EndState → Type 0
AnswersSample e n ticks values mid sample result datagrams after = Where (is_sender_at e n)
    (Sends e n (time_at e n ticks) (values_of values mid) sample result datagrams after) (HasNoSender e result after)

-- The number of a refused repair.
abbrev pub repair_code : RepairError → ℕ
repair_code repair_error.NoRepair = no_repair
repair_code repair_error.NotOwn = not_own
repair_code repair_error.LimitTooSmall = limit_too_small
repair_code repair_error.Memory = memory

abbrev pub repair_outcome : Result (List ℕ) RepairError → ℕ
repair_outcome (Ok datagram) = ok
repair_outcome (Err error) = repair_code error

abbrev pub datagrams_of : Result (List ℕ) RepairError → List (List ℕ)
datagrams_of (Ok datagram) = datagram ∷ []
datagrams_of (Err error) = []

pub record Repairs (e : EndState) (n : ℕ) (datagram : List ℕ) (result : ℕ) (datagrams : List (List ℕ))
    (after : EndState) : Type 0 where
  pub outcome : result ≢ memory → result ≡ repair_outcome (repair (sender_at e n) datagram)
  pub made : result ≡ ok → datagrams ≡ datagrams_of (repair (sender_at e n) datagram)
  pub is_behind : result ≡ ok → after ≡ with_sender e n (with_repair (sender_at e n))
  pub stays : result ≢ ok → after ≡ e

-- What a repair of a datagram answers.
abbrev pub AnswersRepair : EndState → ℕ → List ℕ → ℕ → List (List ℕ) → EndState → Type 0
AnswersRepair e n datagram result datagrams after = Where (is_sender_at e n)
    (Repairs e n datagram result datagrams after) (HasNoSender e result after)
