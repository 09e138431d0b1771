-- Sane and tame schedules of a sending stream's samples, and the stream that hears them.
use Rattle.std.specs.Prelude.{ℕ, ◌≡◌, ◌+◌, ◌^◌, ◌≤◌, false, List, [], ◌∷◌, ◌++◌}
use Rattle.payload_core_buffer.specs.Steps.{Answer}
use Rattle.rtp_media_schedules.specs.Hearing.{EndsSilent}
use Rattle.payload_core_buffer.specs.Buffered.{Holding}
use Rattle.rtp_media_schedules.specs.InTime.{IsInTime, TimedAnswer, when_come}
use Rattle.rtp_media_schedules.specs.Losses.{Follows}
use Rattle.rtp_media_schedules.specs.Orders.{IsSane, IsTame, first_size}
use Rattle.rtp_media_schedules.specs.Samples.{canonical_units, frame_sizes}
use Rattle.rtp_media_schedules.specs.Sending.{Canonical}
use Rattle.rtp_media_schedules.specs.SentSamples.{Timed}
use Rattle.rtp_media_schedules.specs.Turns.{Turn}
use Rattle.rtp_media_streams.specs.Receiving.{opened_receiver}
use Rattle.rtp_media_streams.specs.Rows.{format_of}
use Rattle.rtp_media_streams.specs.Sending.{Sample, Sending}
use Rattle.rtp_media_streams.specs.declared.types.PayloadTypes.{PayloadTypes}
use Rattle.rtp_media_ends.specs.Ends.{EndState}
use Rattle.rtp_media_ends.specs.FullArrival.{AreSound, HasReceiver, IsSender, count_of, is_own_datagram}
use Rattle.rtp_media_ends.specs.FullArrival.{sent_samples}
use Rattle.rtp_media_runs.specs.Schedules.{is_repaired, source_of, turns_of}
use Rattle.rtp_media_runs.specs.declared.schedule.Event.{Event}
use Rattle.rtp_media_runs.specs.declared.schedule.Event.TheVariants.{Arrive, Foreign, Poll, Repair}

-- None of a schedule's foreign bytes reads as a header with this SSRC and one of these payload types, or with the SSRC
-- and type of the stream's RTX (RFC 3550 5.1).
abbrev pub AreForeign : ℕ → PayloadTypes → List Event → Type 0
AreForeign ssrc types [] = Unit {0}
AreForeign ssrc types (Arrive k ∷ xs) = AreForeign ssrc types xs
AreForeign ssrc types (Repair k ∷ xs) = AreForeign ssrc types xs
AreForeign ssrc types (Foreign bytes ∷ xs) = (is_own_datagram ssrc types bytes ≡ false) × AreForeign ssrc types xs
AreForeign ssrc types (Poll ∷ xs) = AreForeign ssrc types xs

-- The schedule's arrivals by true number, repairs included, and its polls.
abbrev pub turns_at : Sending → List Sample → List Event → List Turn
turns_at s samples schedule =
    turns_of s.next (count_of s samples) (is_repaired (source_of s samples)) schedule

-- A sane schedule: nobody else sends under the stream's SSRC and types or those of its RTX; the first datagram to
-- arrive has a number below 65,536; and each later one is less than 32,768 away from the greatest so far.
pub record IsSaneSchedule (s : Sending) (samples : List Sample) (schedule : List Event) : Type 0 where
  pub foreign : AreForeign s.ssrc s.types schedule
  pub order : IsSane s.next (count_of s samples) [] (turns_at s samples schedule)

-- How many datagrams each unit of samples has.
abbrev pub sizes_at : Sending → List Sample → List ℕ
sizes_at s samples = frame_sizes (format_of s.row) (sent_samples s samples)

-- A tame schedule: a sane one in which every datagram arrives, and arrives first before any whose number is 1,024 or
-- more above it; no poll comes before the whole first unit; no more datagrams wait than may be held; at least 1,023
-- complete units are held back, or all polls come last; and it ends with polls until one answers None.
pub record IsTameSchedule (s : Sending) (samples : List Sample) (holding : Holding) (schedule : List Event)
    (answers : List Answer) : Type 0 where
  pub foreign : AreForeign s.ssrc s.types schedule
  pub order : IsTame s.next (count_of s samples) holding (first_size (sizes_at s samples)) [] s.next
      (sizes_at s samples) (turns_at s samples schedule)
  pub before : List Event
  pub last : schedule ≡ before ++ Poll ∷ []
  pub silent : EndsSilent answers

-- The canonical units of a stream's samples, with the numbers of their samples' datagrams.
abbrev pub canonical_of : Sending → List Sample → List Canonical
canonical_of s samples = canonical_units s.next (sent_samples s samples)

-- What the polls of a schedule return though datagrams are lost or late.
abbrev pub FollowsSchedule : Sending → List Sample → Holding → List Event → List Answer → Type 0
FollowsSchedule s samples holding schedule answers =
    Follows s.next (count_of s samples) holding [] s.next (sizes_at s samples) (canonical_of s samples)
    (turns_at s samples schedule) answers

-- A schedule in which every unit comes in time: nobody else sends under the stream's SSRC and types or those of its
-- RTX; every datagram arrives before any whose number is 1,024 or more above it; no more datagrams wait than may be
-- held; and at each poll the next unit is whole, or no more units have ended than are held back.
pub record IsTimelySchedule (s : Sending) (samples : List Sample) (holding : Holding) (schedule : List Event)
    : Type 0 where
  pub foreign : AreForeign s.ssrc s.types schedule
  pub order : IsInTime s.next (count_of s samples) holding [] s.next (sizes_at s samples)
      (turns_at s samples schedule)

-- What its polls return, if these are the units: the next one if all its datagrams came, and otherwise None.
abbrev pub prompt_answers : Sending → List Sample → List Event → List Timed → List TimedAnswer
prompt_answers s samples schedule units =
    when_come [] s.next (sizes_at s samples) units (turns_at s samples schedule)

-- An end's receiving stream hears a sending stream: it has the same SSRC, payload types, extension map and row, and has
-- heard nothing yet. Each sample is well-formed, and the numbers stay below 2^62.
pub record Hears (e : EndState) (rx : ℕ) (holding : Holding) (s : Sending) (samples : List Sample) : Type 0 where
  pub receiver : HasReceiver e rx (opened_receiver s.ssrc s.types s.map s.row holding)
  pub sender : IsSender s
  pub sound : AreSound s samples
  pub numbers : s.next + count_of s samples ≤ 2 ^ 62
