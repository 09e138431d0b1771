-- What a schedule does to an end: arrivals of a sender's datagrams, repairs of them, other bytes, and polls of one
-- receiving stream.
use Rattle.std.specs.Prelude.{ℕ, ◌+◌, Bool, true, false, nat_lt, if◌then◌else◌, List, [], ◌∷◌, ◌++◌, Option, Some, None}
use Rattle.std.specs.Prelude.{◌==◌, ◌||◌, Result, Ok, Err, option_and_then, slice_get}
use Rattle.std.specs.List.{cons_option}
use Rattle.std.specs.Option.{option_map}
use Rattle.rtp_media_schedules.specs.Hearing as hearing
use Rattle.payload_core_buffer.specs.Steps.{Answer}
use Rattle.rtp_media_schedules.specs.Hearing.{poll_answer}
use Rattle.rtp_media_schedules.specs.Turns.{Turn, Ask}
use Rattle.rtp_media_schedules.specs.Turns as turns
use Rattle.rtp_media_streams.specs.Receiving.{Receiving, polled_receiver}
use Rattle.rtp_media_streams.specs.Repairing.{repair, with_repair}
use Rattle.rtp_media_streams.specs.Rows.{format_of}
use Rattle.rtp_media_streams.specs.Sending.{Sample, Sending, after_samples, datagrams_of}
use Rattle.rtp_media_streams.specs.declared.errors.RepairError.{RepairError}
use Rattle.rtp_media_ends.specs.EndArrivals.{after_datagram, verdict_of}
use Rattle.rtp_media_ends.specs.Ends.{EndState, receiver_at, with_receiver}
use Rattle.rtp_media_ends.specs.OwnEvents.{event_in}
use Rattle.rtp_media_runs.specs.declared.schedule.Event.{Event}
use Rattle.rtp_media_runs.specs.declared.schedule.Event.TheVariants.{Arrive, Foreign, Poll, Repair}
use Rattle.rtp_media_runs.specs.declared.schedule.Played.{Played}
use Rattle.rtp_media_runs.specs.declared.schedule.Played.TheVariants.{NotRepaired, Received, Polled}

-- What a sending stream has sent, and its state then, from which it may repair.
pub record Source : Type 0 where
  pub datagrams : List (List ℕ)
  pub stream : Sending

-- A stream that has sent samples.
abbrev pub source_of : Sending → List Sample → Source
source_of s samples = record { datagrams = datagrams_of s samples; stream = after_samples s samples }

-- The result of repairing the k-th datagram (from 0); nothing, if there is none.
abbrev pub repair_at : Source → ℕ → Option (Result (List ℕ) RepairError)
repair_at sent k = option_map (repair sent.stream) (slice_get sent.datagrams k)

-- The bytes of a repair; none if it is refused.
abbrev pub bytes_of : Option (Result (List ℕ) RepairError) → Option (List ℕ)
bytes_of None = None
bytes_of (Some (Err e)) = None
bytes_of (Some (Ok bytes)) = Some bytes

-- The stream after it.
abbrev pub stream_after : Sending → Option (Result (List ℕ) RepairError) → Sending
stream_after s None = s
stream_after s (Some (Err e)) = s
stream_after s (Some (Ok bytes)) = with_repair s

-- The result of the repair that an event asks for.
abbrev pub made_at : Source → Event → Option (Result (List ℕ) RepairError)
made_at sent (Arrive k) = None
made_at sent (Repair k) = repair_at sent k
made_at sent (Foreign bytes) = None
made_at sent Poll = None

-- The source after an event: the stream counts its repairs.
abbrev pub source_after : Source → Event → Source
source_after sent (Arrive k) = sent
source_after sent (Repair k) =
    record { datagrams = sent.datagrams; stream = stream_after sent.stream (repair_at sent k) }
source_after sent (Foreign bytes) = sent
source_after sent Poll = sent

abbrev pub source_after_all : Source → List Event → Source
source_after_all sent [] = sent
source_after_all sent (x ∷ xs) = source_after_all (source_after sent x) xs

-- The verdict on bytes.
abbrev pub verdicts_on : EndState → Option (List ℕ) → List Played
verdicts_on e None = []
verdicts_on e (Some bytes) = Received (verdict_of e bytes) ∷ []

-- The end after them.
abbrev pub after_bytes : EndState → Option (List ℕ) → EndState
after_bytes e None = e
after_bytes e (Some bytes) = after_datagram e bytes

-- The answer to a repair: why it is refused, or the verdict on its bytes.
abbrev pub answers_on : EndState → Option (Result (List ℕ) RepairError) → List Played
answers_on e None = []
answers_on e (Some (Err refusal)) = NotRepaired refusal ∷ []
answers_on e (Some (Ok bytes)) = Received (verdict_of e bytes) ∷ []

-- What a poll of a stream answers.
abbrev pub answer_at : EndState → ℕ → Answer
answer_at e rx = poll_answer (format_of (receiver_at e rx).row) (receiver_at e rx).stream

-- What an event answers, at most one thing, and the end after it; polls are polls of this stream.
abbrev pub answers_to : Source → ℕ → EndState → Event → List Played
answers_to sent rx e (Arrive k) = verdicts_on e (slice_get sent.datagrams k)
answers_to sent rx e (Repair k) = answers_on e (repair_at sent k)
answers_to sent rx e (Foreign bytes) = Received (verdict_of e bytes) ∷ []
answers_to sent rx e Poll = Polled (answer_at e rx) ∷ []

abbrev pub after_event : Source → ℕ → EndState → Event → EndState
after_event sent rx e (Arrive k) = after_bytes e (slice_get sent.datagrams k)
after_event sent rx e (Repair k) = after_bytes e (bytes_of (repair_at sent k))
after_event sent rx e (Foreign bytes) = after_datagram e bytes
after_event sent rx e Poll = with_receiver e rx (polled_receiver (receiver_at e rx))

-- What a schedule answers, in order, and the end after it.
abbrev pub played : Source → ℕ → EndState → List Event → List Played
played sent rx e [] = []
played sent rx e (x ∷ xs) =
    answers_to sent rx e x ++ played (source_after sent x) rx (after_event sent rx e x) xs

abbrev pub after_schedule : Source → ℕ → EndState → List Event → EndState
after_schedule sent rx e [] = e
after_schedule sent rx e (x ∷ xs) = after_schedule (source_after sent x) rx (after_event sent rx e x) xs

-- The answers to the polls among what a schedule answers.
abbrev pub poll_answers : List Played → List Answer
poll_answers [] = []
poll_answers (Received verdict ∷ ps) = poll_answers ps
poll_answers (NotRepaired refusal ∷ ps) = poll_answers ps
poll_answers (Polled answer ∷ ps) = answer ∷ poll_answers ps

-- What an event is to a receiving stream, if it is one of its own datagrams, a repair of one, or a poll.
abbrev pub own_event : Source → Receiving → Event → Option hearing.Event
own_event sent r (Arrive k) = option_and_then (event_in r) (slice_get sent.datagrams k)
own_event sent r (Repair k) = option_and_then (event_in r) (bytes_of (repair_at sent k))
own_event sent r (Foreign bytes) = event_in r bytes
own_event sent r Poll = Some hearing.Poll

-- A schedule's events that concern one stream, in order.
abbrev pub own_events : Source → Receiving → List Event → List hearing.Event
own_events sent r [] = []
own_events sent r (x ∷ xs) = cons_option (own_event sent r x) (own_events (source_after sent x) r xs)

abbrev pub is_made : Option (Result (List ℕ) RepairError) → Bool
is_made None = false
is_made (Some (Err e)) = false
is_made (Some (Ok bytes)) = true

-- Whether the k-th datagram exists and can be repaired; other repairs don't change this.
abbrev pub is_repaired : Source → ℕ → Bool
is_repaired sent k = is_made (repair_at sent k)

-- Whether the k-th datagram arrived in a schedule, by itself or by a repair.
abbrev pub has_come : ℕ → List Event → Bool
has_come k [] = false
has_come k (Arrive i ∷ xs) = (i == k) || has_come k xs
has_come k (Repair i ∷ xs) = (i == k) || has_come k xs
has_come k (Foreign bytes ∷ xs) = has_come k xs
has_come k (Poll ∷ xs) = has_come k xs

-- The arrivals of a schedule by true number, the sender's datagrams being numbered from `first` on, and its polls. A
-- repair counts as an arrival of the datagram it repeats.
abbrev pub turns_of : ℕ → ℕ → (ℕ → Bool) → List Event → List Turn
turns_of first count repaired [] = []
turns_of first count repaired (Arrive k ∷ xs) =
    if nat_lt k count then turns.Arrive (first + k) ∷ turns_of first count repaired xs
    else turns_of first count repaired xs
turns_of first count repaired (Repair k ∷ xs) =
    if repaired k then turns.Arrive (first + k) ∷ turns_of first count repaired xs
    else turns_of first count repaired xs
turns_of first count repaired (Foreign bytes ∷ xs) = turns_of first count repaired xs
turns_of first count repaired (Poll ∷ xs) = Ask ∷ turns_of first count repaired xs
