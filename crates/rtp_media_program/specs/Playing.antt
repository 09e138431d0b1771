-- What the program answers to the commands of whole runs.
use Rattle.std.specs.Prelude.{ℕ, ◌≡◌, ◌≢◌, ◌⊎◌, ◌&&◌, List, [], map, Option, Some, None, Ok, Err}
use Rattle.rtp_wire.specs.Values.{absent}
use Rattle.rtp_media_streams.specs.Sending.{Sample}
use Rattle.rtp_media_streams.specs.declared.errors.PollFault.TheVariants as poll_fault
use Rattle.rtp_media_streams.specs.declared.errors.SampleError.{SampleError}
use Rattle.rtp_media_streams.specs.declared.errors.SampleError.TheVariants as sample_error
use Rattle.rtp_media_ends.specs.Ends.{EndState, is_receiver_at, is_sender_at, sender_at}
use Rattle.rtp_media_runs.specs.Pushing.{IsCutShort, IsRefusedAt, after_repairs, refusal_of_samples}
use Rattle.rtp_media_runs.specs.Schedules.{after_schedule, played, source_of}
use Rattle.rtp_media_runs.specs.declared.schedule.Event.{Event}
use Rattle.rtp_media_runs.specs.declared.schedule.Event.TheVariants as event
use Rattle.rtp_media_runs.specs.declared.schedule.Played.{Played}
use Rattle.rtp_media_runs.specs.declared.schedule.Played.TheVariants as play_answer
use Rattle.rtp_media_program.specs.declared.play_words.PlayCommand.{PlayCommand}
use Rattle.rtp_media_program.specs.declared.play_words.PlayItem.{PlayItem}
use Rattle.rtp_media_program.specs.declared.play_words.PlayItem.TheVariants as item
use Rattle.rtp_media_program.specs.declared.play_words.QueueCommand.{QueueCommand}
use Rattle.rtp_media_program.specs.declared.reply.Reply.{Reply}
use Rattle.rtp_media_program.specs.declared.reply.Reply.TheVariants as reply
use Rattle.rtp_media_ends.specs.Stops.{Where}
use Rattle.rtp_media_program.specs.Replies.{Prints, memory}
use Rattle.rtp_media_program.specs.EndErrorNames.{fault_name, repair_error_name, sample_error_name}
use Rattle.rtp_media_program.specs.Streams.{unit_reply, verdict_reply}

-- The event of a schedule item.
abbrev pub event_of : PlayItem → Event
event_of (item.Arrive k) = event.Arrive k
event_of (item.Repair k) = event.Repair k
event_of (item.Foreign bytes) = event.Foreign bytes
event_of item.Poll = event.Poll

-- A kept sample, at a clock rate.
abbrev pub sample_at : ℕ → QueueCommand → Sample
sample_at rate q = record { time = record { ticks = q.time; rate = rate }; values = absent; bytes = q.sample }

-- The kept samples, at the clock rate of a sending stream's row.
abbrev pub samples_for : EndState → ℕ → List QueueCommand → List Sample
samples_for a tx queue = map (sample_at (sender_at a tx).row.clock_rate) queue

-- The line for an answer.
abbrev pub played_reply : Played → Reply
played_reply (play_answer.Received verdict) = verdict_reply verdict
played_reply (play_answer.NotRepaired e) = reply.Refused (repair_error_name e)
played_reply (play_answer.Polled (Ok unit)) = unit_reply unit
played_reply (play_answer.Polled (Err e)) = reply.Fault (fault_name (poll_fault.Payload e))

-- All samples are accepted, and a line is printed for each answer.
abbrev pub PrintsPlayed : EndState → EndState → List Sample → PlayCommand → EndState → EndState → List Reply → Type 0
PrintsPlayed a b samples c after_a after_b replies =
    (refusal_of_samples (sender_at a c.tx) samples ≡ None)
    × (after_a ≡ after_repairs a c.tx (source_of (sender_at a c.tx) samples) (map event_of c.items))
    × (after_b ≡ after_schedule (source_of (sender_at a c.tx) samples) c.rx b (map event_of c.items))
    × (replies ≡ map played_reply (played (source_of (sender_at a c.tx) samples) c.rx b (map event_of c.items)))

-- A sample is refused: the samples before it were sent, and no event of the schedule takes place.
abbrev pub PrintsRefusal : EndState → EndState → List Sample → PlayCommand → EndState → EndState → List Reply → Type 0
PrintsRefusal a b samples c after_a after_b replies =
    (error : SampleError) × (error ≢ sample_error.Memory) × IsRefusedAt a c.tx samples error after_a × (after_b ≡ b)
    × Prints replies (reply.Refused (sample_error_name error))

-- Memory ran out partway.
abbrev pub PrintsMemory : EndState → EndState → List Sample → PlayCommand → EndState → EndState → List Reply → Type 0
PrintsMemory a b samples c after_a after_b replies =
    IsCutShort a b c.tx c.rx samples (map event_of c.items) after_a after_b × Prints replies (reply.Refused memory)

abbrev pub AnswersPlay : EndState → EndState → List Sample → PlayCommand → EndState → EndState → List Reply → Type 0
AnswersPlay a b samples c after_a after_b replies =
    PrintsPlayed a b samples c after_a after_b replies
    ⊎ (PrintsRefusal a b samples c after_a after_b replies ⊎ PrintsMemory a b samples c after_a after_b replies)

-- play TX RX ITEM..: if both ends and streams exist, the queued samples are sent and the queue is emptied.
abbrev pub PlaysEnds : Option EndState → Option EndState → List QueueCommand → PlayCommand → Option EndState
    → Option EndState → List QueueCommand → List Reply → Type 0
PlaysEnds (Some a) (Some b) queue c (Some after_a) (Some after_b) left replies =
    Where (is_sender_at a c.tx && is_receiver_at b c.rx)
    ((left ≡ []) × AnswersPlay a b (samples_for a c.tx queue) c after_a after_b replies)
    ((after_a ≡ a) × (after_b ≡ b) × (left ≡ queue) × Prints replies reply.ErrorLine)
PlaysEnds a b queue c after_a after_b left replies =
    (after_a ≡ a) × (after_b ≡ b) × (left ≡ queue) × Prints replies reply.ErrorLine
