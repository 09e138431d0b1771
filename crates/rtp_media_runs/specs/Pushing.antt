-- Samples pushed in order, and interrupted runs.
use Rattle.std.specs.Prelude.{ℕ, suc, ◌≡◌, ◌≤◌, ◌⊎◌, List, [], ◌∷◌, length, take, Option, Some, None}
use Rattle.std.specs.Prelude.{Result, Ok, Err}
use Rattle.rtp_media_streams.specs.Repairing.{with_repair}
use Rattle.rtp_media_streams.specs.Sending.{HasFailed, Sample, Sending, after_sample, after_samples}
use Rattle.rtp_media_streams.specs.Sending.{first_refusal, refusal_of_sample}
use Rattle.rtp_media_streams.specs.declared.errors.RepairError.{RepairError}
use Rattle.rtp_media_streams.specs.declared.errors.SampleError.{SampleError}
use Rattle.rtp_media_ends.specs.Ends.{EndState, sender_at, with_sender}
use Rattle.rtp_media_ends.specs.Stops.{PollStops}
use Rattle.rtp_media_runs.specs.Schedules.{Source, after_schedule, made_at, source_after_all, source_of}
use Rattle.rtp_media_runs.specs.declared.schedule.Event.{Event}

-- Why a stream refuses one of these samples: the first refusal, lack of memory aside.
abbrev pub refusal_of_samples : Sending → List Sample → Option SampleError
refusal_of_samples s [] = None
refusal_of_samples s (x ∷ xs) = first_refusal (refusal_of_sample s x.time x.values x.bytes)
    (refusal_of_samples (after_sample s x.time x.values x.bytes) xs)

-- The end after the samples are pushed at one of its sending streams.
abbrev pub after_pushes : EndState → ℕ → List Sample → EndState
after_pushes e tx samples = with_sender e tx (after_samples (sender_at e tx) samples)

-- The first `count` samples were accepted and pushed, and the next one was refused for this reason.
pub record IsRefusedAt (e : EndState) (tx : ℕ) (samples : List Sample) (error : SampleError) (after : EndState)
    : Type 0 where
  pub count : ℕ
  pub place : count ≤ length samples
  pub accepted : refusal_of_samples (sender_at e tx) (take count samples) ≡ None
  pub after_is : after ≡ after_pushes e tx (take count samples)
  pub here : refusal_of_samples (sender_at e tx) (take (suc count) samples) ≡ Some error
  pub refused : refusal_of_samples (sender_at e tx) samples ≡ Some error

-- The first `count` samples were pushed, and then memory ran out: the stream has failed, or is as they left it.
pub record PushesSome (e : EndState) (tx : ℕ) (samples : List Sample) (after : EndState) : Type 0 where
  pub count : ℕ
  pub place : count ≤ length samples
  pub accepted : refusal_of_samples (sender_at e tx) (take count samples) ≡ None
  pub stream : (sender_at after tx ≡ after_samples (sender_at e tx) (take count samples))
      ⊎ HasFailed (after_samples (sender_at e tx) (take count samples)) (sender_at after tx)
  pub others : after ≡ with_sender e tx (sender_at after tx)

-- An end's sending stream that has sent these datagrams.
abbrev pub source_at : EndState → ℕ → List (List ℕ) → Source
source_at e tx datagrams = record { datagrams = datagrams; stream = sender_at e tx }

-- The end after a repair, and after those of a schedule, which the stream counts.
abbrev pub after_made : EndState → ℕ → Option (Result (List ℕ) RepairError) → EndState
after_made e tx None = e
after_made e tx (Some (Err refusal)) = e
after_made e tx (Some (Ok bytes)) = with_sender e tx (with_repair (sender_at e tx))

abbrev pub after_repairs : EndState → ℕ → Source → List Event → EndState
after_repairs e tx sent schedule = with_sender e tx (source_after_all sent schedule).stream

-- Memory ran out in an event: in a poll, while making a repair, or in receiving bytes (a repair's too), which weren't
-- taken.
pub record StopsAt (sent : Source) (tx rx : ℕ) (a b : EndState) (event : Event) (after_a after_b : EndState)
    : Type 0 where
  pub sender : (after_a ≡ a) ⊎ (after_a ≡ after_made a tx (made_at sent event))
  pub receiver : (after_b ≡ b) ⊎ PollStops b rx after_b

-- The first `count` events took place, and then memory ran out, possibly in a poll or after one more repair was made.
pub record PlaysSome (sent : Source) (tx rx : ℕ) (a b : EndState) (schedule : List Event) (after_a after_b : EndState)
    : Type 0 where
  pub count : ℕ
  pub place : count ≤ length schedule
  pub sender : (after_a ≡ after_repairs a tx sent (take count schedule))
      ⊎ (after_a ≡ after_repairs a tx sent (take (suc count) schedule))
  pub receiver : (after_b ≡ after_schedule sent rx b (take count schedule))
      ⊎ PollStops (after_schedule sent rx b (take count schedule)) rx after_b

-- Memory ran out while samples were pushed, before any event; or all were pushed, and the first events took place.
pub data IsCutShort (a b : EndState) (tx rx : ℕ) (samples : List Sample) (schedule : List Event)
    (after_a after_b : EndState) : Type 0 where
  AtPush : (some : PushesSome a tx samples after_a) (same : after_b ≡ b)
      → IsCutShort a b tx rx samples schedule after_a after_b
  AtEvent : (accepted : refusal_of_samples (sender_at a tx) samples ≡ None)
      (some : PlaysSome (source_of (sender_at a tx) samples) tx rx a b schedule after_a after_b)
      → IsCutShort a b tx rx samples schedule after_a after_b
