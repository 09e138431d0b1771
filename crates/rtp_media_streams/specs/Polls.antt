-- What polls of a receiving stream answer.
use Rattle.std.specs.Prelude.{◌≡◌, ◌<◌, ◌⊎◌, ℕ, List, [], ◌∷◌, ◌++◌, Option, length, map, take, Some, None}
use Rattle.std.specs.Prelude.{Result, Ok, Err}
use Rattle.payload_core_base.specs.declared.error.PacketError.{PacketError}
use Rattle.payload_core_buffer.specs.Steps.{AnswersBy, PollStep}
use Rattle.rtp_media_schedules.specs.Drains.{holding_back}
use Rattle.payload_core_buffer.specs.Steps.{Answer, MediaUnit}
use Rattle.rtp_media_schedules.specs.Hearing.{IsInterrupted, poll_answer, polled}
use Rattle.rtp_media_schedules.specs.SentSamples.{Timed, timed}
use Rattle.rtp_media_streams.specs.Receiving.{Receiving, polled_receiver, with_stream}
use Rattle.rtp_media_streams.specs.Rows.{format_of}
use Rattle.rtp_media_streams.specs.declared.errors.PollFault.{PollFault}
use Rattle.rtp_media_streams.specs.declared.errors.PollFault.TheVariants.{Memory, Payload}

-- What one poll answers.
abbrev pub PollResult : Type 0
PollResult = Result (Option MediaUnit) PollFault

-- An answer as a poll returns it if memory lasts.
abbrev pub given : Answer → PollResult
given (Ok unit) = Ok unit
given (Err e) = Err (Payload e)

-- A poll of a receiving stream, in terms of what a stream hears; and a drain, which is a poll with no hold-back, for
-- the end of a stream.
abbrev pub poll_step : Receiving → PollStep Receiving
poll_step r = record {
  answer = poll_answer (format_of r.row) r.stream;
  next = polled_receiver r;
  Stopped = λ t. IsInterrupted (format_of r.row) r.stream t.stream × (t ≡ with_stream r t.stream);
}

abbrev pub drain_step : Receiving → PollStep Receiving
drain_step r = record {
  answer = poll_answer (format_of r.row) (holding_back 0 r.stream);
  next = with_stream r (holding_back r.stream.holding.hold_back (polled (format_of r.row) (holding_back 0 r.stream)));
  Stopped = λ t. IsInterrupted (format_of r.row) (holding_back 0 r.stream) (holding_back 0 t.stream)
      × (t ≡ with_stream r (holding_back r.stream.holding.hold_back t.stream));
}

-- What they answer if memory is found.
abbrev pub poll_result : Receiving → PollResult
poll_result r = given (poll_step r).answer

abbrev pub drain_result : Receiving → PollResult
drain_result r = given (drain_step r).answer

-- What was answered, unless memory ran out.
abbrev pub found : PollResult → Option Answer
found (Ok unit) = Some (Ok unit)
found (Err (Payload e)) = Some (Err e)
found (Err Memory) = None

-- Answers to a stream's polls that hand something out.
abbrev pub Answers : Type 0
Answers = List (Result MediaUnit PollFault)

-- Polls until None or lack of memory: their answers in order, and the state they leave.
pub data IsPolled {S : Type 0} (step : S → PollStep S) : S → Answers → S → Type 0 where
  Silent : {s t : S} (none : AnswersBy (step s) t (Some (Ok None))) → IsPolled step s [] t
  HandsOut : {s m t : S} {u : MediaUnit} {os : Answers} (some : AnswersBy (step s) m (Some (Ok (Some u))))
      (rest : IsPolled step m os t) → IsPolled step s (Ok u ∷ os) t
  Faults : {s m t : S} {e : PacketError} {os : Answers} (fault : AnswersBy (step s) m (Some (Err e)))
      (rest : IsPolled step m os t) → IsPolled step s (Err (Payload e) ∷ os) t
  WantsMemory : {s t : S} (wants : AnswersBy (step s) t None) → IsPolled step s (Err Memory ∷ []) t

-- Any number of polls; memory may have run out at the last one.
pub data IsPolledSome {S : Type 0} (step : S → PollStep S) : S → S → Type 0 where
  NoMore : {s : S} → IsPolledSome step s s
  Once : {s m t : S} {a : Answer} (one : AnswersBy (step s) m (Some a)) (rest : IsPolledSome step m t)
      → IsPolledSome step s t
  Short : {s t : S} (wants : AnswersBy (step s) t None) → IsPolledSome step s t

-- What is handed out, without its numbers and what its format tells beside.
abbrev pub timed_answer : Result MediaUnit PollFault → Result Timed PollFault
timed_answer (Ok u) = Ok (timed u.time u.values u.bytes)
timed_answer (Err e) = Err e

-- The answers are the first of these units, but not all, and then an out-of-memory fault.
pub record IsCutShort (units : List Timed) (answers : Answers) : Type 0 where
  pub count : ℕ
  pub stopped : count < length units
  pub answers_are : map timed_answer answers ≡ map Ok (take count units) ++ Err Memory ∷ []

-- The answers are these units, unless memory ran out.
abbrev pub AreAnswered : List Timed → Answers → Type 0
AreAnswered units answers = (map timed_answer answers ≡ map Ok units) ⊎ IsCutShort units answers
