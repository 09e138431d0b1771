-- Streams between two ends, and units that come out of one stream and are sent over another.
use Rattle.std.specs.Prelude.{ℕ, ◌≡◌, ◌+◌, ◌^◌, ◌≤◌, List, [], ◌∷◌, All, Some, None, Result, Ok, Err}
use Rattle.payload_core_base.specs.declared.error.PacketError.{PacketError}
use Rattle.rtp_media_runs.specs.Codecs.{is_kept_in}
use Rattle.rtp_wire.specs.Values.{Numbering}
use Rattle.rtp_wire.specs.declared.values.ExtensionValues.{ExtensionValues}
use Rattle.payload_core_buffer.specs.Steps.{Answer, MediaUnit}
use Rattle.payload_core_buffer.specs.Buffered.{Holding}
use Rattle.rtp_media_schedules.specs.SentSamples.{Timed, timed}
use Rattle.rtp_media_streams.specs.Rows.{rtp_rate, settings_in}
use Rattle.rtp_media_streams.specs.Sending.{Sample, Sending}
use Rattle.rtp_media_streams.specs.declared.row_format.RowFormat.{RowFormat}
use Rattle.rtp_media_ends.specs.Ends.{EndState, agreed_format, new_sender, stream_map}
use Rattle.rtp_media_ends.specs.FullArrival.{count_of}
use Rattle.rtp_media_ends.specs.declared.StreamParams.{StreamParams}
use Rattle.rtp_media_runs.specs.Headline.{SendsTo, answers_of, units}
use Rattle.rtp_media_runs.specs.Runs.{IsTameSchedule}
use Rattle.rtp_media_runs.specs.Units.{arriving_values, packet_limit_of}
use Rattle.rtp_media_runs.specs.declared.schedule.Event.{Event}

-- A stream between two ends that have exchanged texts: the text of the answer, the two ends before opening, and the
-- parameters each opens it with.
pub record Hop : Type 0 where
  pub answer : List ℕ
  pub sender : EndState
  pub receiver : EndState
  pub mid : List ℕ
  pub ssrc : ℕ
  pub pt : ℕ
  pub params : StreamParams
  pub holding : Holding

-- The sending stream.
abbrev pub sender_over : Hop → Sending
sender_over h = new_sender h.sender h.mid h.ssrc h.pt h.params

-- The headline's conditions on a stream and its samples.
abbrev pub Carries : Hop → List Sample → Type 0
Carries h samples = SendsTo h.answer h.sender h.receiver h.mid h.ssrc h.pt h.params samples

-- The answers to a schedule's polls; the canonical units; and whether the schedule is tame.
abbrev pub answers_over : Hop → List Sample → List Event → List Answer
answers_over h samples schedule =
    answers_of h.sender h.receiver h.mid h.ssrc h.pt h.params h.holding samples schedule

abbrev pub units_over : Hop → List Sample → List Timed
units_over h samples = units h.sender h.mid h.pt h.params samples

abbrev pub IsTame : Hop → List Sample → List Event → Type 0
IsTame h samples schedule =
    IsTameSchedule (sender_over h) samples h.holding schedule (answers_over h samples schedule)

-- Its row's payload format, its extension map, and its packet limit.
abbrev pub row_over : Hop → RowFormat
row_over h = agreed_format h.sender h.mid h.pt

abbrev pub map_over : Hop → Numbering
map_over h = stream_map h.sender h.mid

abbrev pub limit_over : Hop → ℕ
limit_over h = packet_limit_of h.params

-- Each sample's units survive two hops.
abbrev pub AreKept : Hop → List Sample → Type 0
AreKept h samples = All (λ x. is_kept_in (settings_in (row_over h)) (row_over h).codec (limit_over h) x.bytes) samples

-- A unit as a sample: its timestamp as a time at this clock rate, its header extension values and its bytes.
abbrev pub sample_of : ℕ → MediaUnit → Sample
sample_of rate u = record { time = record { ticks = u.time; rate = rate }; values = u.values; bytes = u.bytes }

-- What the answers hand out, as samples; None and faults are skipped.
abbrev pub as_samples : ℕ → List Answer → List Sample
as_samples rate [] = []
as_samples rate (Ok None ∷ os) = as_samples rate os
as_samples rate (Ok (Some u) ∷ os) = sample_of rate u ∷ as_samples rate os
as_samples rate (Err e ∷ os) = as_samples rate os

-- The units of a run, as samples at the RTP clock of its row.
abbrev pub passed_on : Hop → List Sample → List Event → List Sample
passed_on h samples schedule = as_samples (rtp_rate (row_over h)) (answers_over h samples schedule)

-- The second stream is opened like the first: its row has the same payload format, it has the same extension map and
-- packet limit, and it starts with the same picture id and the same options.
pub record IsAlike (first second : Hop) : Type 0 where
  pub row : row_over second ≡ row_over first
  pub map : map_over second ≡ map_over first
  pub limit : limit_over second ≡ limit_over first
  pub picture_id : second.params.picture_id ≡ first.params.picture_id
  pub for_browsers : second.params.for_browsers ≡ first.params.for_browsers

-- The units of a tame run, all of them kept, are sent on over a second stream: it may be opened, is opened like the
-- first, and its numbers stay below 2^62.
pub record SendsOn (first second : Hop) (samples : List Sample) (schedule : List Event) : Type 0 where
  pub carries : Carries first samples
  pub kept : AreKept first samples
  pub tame : IsTame first samples schedule
  pub opened : Carries second []
  pub alike : IsAlike first second
  pub numbers : second.params.first + count_of (sender_over second) (passed_on first samples schedule) ≤ 2 ^ 62

-- A unit with the header extension values that survive another hop.
abbrev pub carried_again : Numbering → Timed → Timed
carried_again map u = timed u.time (arriving_values map u.values) u.bytes

abbrev pub without_send_time : ExtensionValues → ExtensionValues
without_send_time v = record v { abs_send_time = None }

-- What is handed out, without its numbers, its codec data and its send time, which each hop rounds down again.
abbrev pub unstamped : Result MediaUnit PacketError → Result Timed PacketError
unstamped (Ok u) = Ok (timed u.time (without_send_time u.values) u.bytes)
unstamped (Err e) = Err e
