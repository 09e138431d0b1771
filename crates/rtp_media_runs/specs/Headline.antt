-- Two ends that exchanged texts, and each opened a stream.
use Rattle.std.specs.Prelude.{ℕ, ◌+◌, ◌^◌, ◌<◌, ◌≤◌, List, length, IfSome}
use Rattle.payload_core_buffer.specs.Steps.{Answer}
use Rattle.payload_core_buffer.specs.Buffered.{Holding}
use Rattle.rtp_media_schedules.specs.SentSamples.{Timed}
use Rattle.rtp_media_streams.specs.Sending.{Sample}
use Rattle.rtp_media_ends.specs.Connections.{HaveExchanged}
use Rattle.rtp_media_ends.specs.Ends.{EndState, after_open_receiver, agreed_format, agreed_red, new_sender}
use Rattle.rtp_media_ends.specs.Ends.{sender_types, stream_map}
use Rattle.rtp_media_ends.specs.FullArrival.{AreSound, count_of}
use Rattle.rtp_media_ends.specs.OpensAt.{ReceivesAt, SendsAt}
use Rattle.rtp_media_ends.specs.Params.{IsSound}
use Rattle.rtp_media_ends.specs.declared.StreamParams.{StreamParams}
use Rattle.rtp_media_runs.specs.Schedules.{played, poll_answers, source_of}
use Rattle.rtp_media_runs.specs.Units.{packet_limit_of, units_for}
use Rattle.rtp_media_runs.specs.declared.schedule.Event.{Event}

-- One end sends samples to another: they have exchanged texts; each may open a stream with one mid, SSRC and payload
-- type, the sending one with valid parameters (its first number is below 32,768); the samples are well-formed, and
-- their numbers stay below 2^62.
pub record SendsTo (answer : List ℕ) (a b : EndState) (mid : List ℕ) (ssrc pt : ℕ) (params : StreamParams)
    (samples : List Sample) : Type 0 where
  pub exchanged : HaveExchanged answer a b
  pub sends : SendsAt a mid ssrc pt
  pub receives : ReceivesAt b mid ssrc pt
  pub ssrc_fits : ssrc < 2 ^ 32
  pub repair_fits : IfSome (sender_types a mid ssrc pt).repair (λ key. key.ssrc < 2 ^ 32)
  pub sound_params : IsSound (agreed_red a mid pt) params
  pub sound_samples : AreSound (new_sender a mid ssrc pt params) samples
  pub numbers : params.first + count_of (new_sender a mid ssrc pt params) samples ≤ 2 ^ 62

-- The answers to a schedule's polls of the new receiving stream.
abbrev pub answers_of : EndState → EndState → List ℕ → ℕ → ℕ → StreamParams → Holding → List Sample → List Event
    → List Answer
answers_of a b mid ssrc pt params holding samples schedule =
    poll_answers (played (source_of (new_sender a mid ssrc pt params) samples) (length b.streams)
    (after_open_receiver b mid ssrc pt holding) schedule)

-- The canonical units of the samples.
abbrev pub units : EndState → List ℕ → ℕ → StreamParams → List Sample → List Timed
units a mid pt params samples =
    units_for (agreed_format a mid pt) (stream_map a mid) (packet_limit_of params) params.picture_id
    params.for_browsers samples
