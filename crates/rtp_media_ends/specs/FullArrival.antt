use Rattle.std.specs.Prelude.{ℕ, ◌≡◌, ◌+◌, ◌-◌, ◌^◌, ◌<◌, ◌≤◌, Bool, true, false, List, [], ◌∷◌, length}
use Rattle.std.specs.Prelude.{map, take, ◌⊎◌, All, Option, Some, None, slice_index_or}
use Rattle.rtp_wire.specs.Carried.{AreValues}
use Rattle.rtp_wire.specs.Header.{header_in}
use Rattle.rtp_wire.specs.Maps.{empty_map}
use Rattle.rtp_wire.specs.declared.header.RtpHeader.{RtpHeader}
use Rattle.payload_core_base.specs.Law.{Coding}
use Rattle.rtp_media_schedules.specs.SentSamples.{Timed}
use Rattle.rtp_media_schedules.specs.Samples.{AreWellFormed, SentSample, canonical_units, packets_of, sent_by}
use Rattle.rtp_media_schedules.specs.Samples.{whole_unit}
use Rattle.rtp_media_schedules.specs.Turns.{AreGoodArrivals}
use Rattle.payload_core_buffer.specs.Buffered.{Holding}
use Rattle.rtp_media_streams.specs.Rows.{coding_in}
use Rattle.rtp_media_streams.specs.Sending.{Sample, Sending, IsTyped, datagrams_of, packet_limit, samples_of}
use Rattle.rtp_media_streams.specs.Receiving.{Receiving, opened_receiver}
use Rattle.rtp_media_streams.specs.Types.{is_key_of}
use Rattle.rtp_media_streams.specs.declared.types.PayloadTypes.{PayloadTypes}
use Rattle.rtp_media_ends.specs.Ends.{EndState, receiver_at, with_streams}
use Rattle.rtp_media_ends.specs.EndArrivals.{verdict_of, after_datagram}
use Rattle.rtp_media_ends.specs.OwnEvents.{own_events}
use Rattle.rtp_media_ends.specs.Repairs.{IsKeyBeside}
use Rattle.rtp_media_stream_table.specs.Arrivals.{stream_for}
use Rattle.rtp_media_stream_table.specs.declared.received.Received.{Received}
use Rattle.rtp_media_stream_table.specs.Polled.{ArePolledSome}

-- The verdicts on datagrams received in order.
abbrev pub verdicts_of : EndState → List (List ℕ) → List Received
verdicts_of e [] = []
verdicts_of e (d ∷ ds) = verdict_of e d ∷ verdicts_of (after_datagram e d) ds

-- The end after them.
abbrev pub after_datagrams : EndState → List (List ℕ) → EndState
after_datagrams e [] = e
after_datagrams e (d ∷ ds) = after_datagrams (after_datagram e d) ds

-- The first n of the datagrams were received.
pub record ReceivesSome (e : EndState) (datagrams : List (List ℕ)) (after : EndState) : Type 0 where
  pub count : ℕ
  pub place : count ≤ length datagrams
  pub after_is : after ≡ after_datagrams e (take count datagrams)

-- Either the first n of the datagrams were received; or all were, and then streams were polled a number of times.
abbrev pub ReceivesAndPollsSome : EndState → List (List ℕ) → EndState → Type 0
ReceivesAndPollsSome e datagrams after =
    ReceivesSome e datagrams after
    ⊎ (ArePolledSome (after_datagrams e datagrams).streams after.streams
    × (after ≡ with_streams (after_datagrams e datagrams) after.streams))

abbrev pub is_header_of : ℕ → PayloadTypes → Option RtpHeader → Bool
is_header_of ssrc types None = false
is_header_of ssrc types (Some header) = is_key_of ssrc types header.ssrc header.payload_type

-- The datagram starts with a header with this SSRC and one of these payload types (RFC 3550 5.1).
abbrev pub is_own_datagram : ℕ → PayloadTypes → List ℕ → Bool
is_own_datagram ssrc types datagram = is_header_of ssrc types (header_in empty_map datagram)

-- The payload format of a sending stream.
abbrev pub coding_of : Sending → Coding
coding_of s = coding_in s.row s.has_id s.for_browsers

-- Samples as a stream sends them and as they arrive: their packets and their units.
abbrev pub sent_samples : Sending → List Sample → List SentSample
sent_samples s samples = sent_by (coding_of s) (packet_limit s) s.packetizer (samples_of s samples)

-- Their number of datagrams.
abbrev pub count_of : Sending → List Sample → ℕ
count_of s samples = length (packets_of (sent_samples s samples))

-- The datagram with this number.
abbrev pub sent_datagram : Sending → List Sample → ℕ → List ℕ
sent_datagram s samples number = slice_index_or (datagrams_of s samples) (number - s.next) []

-- The canonical units of a stream's samples, with the header extension values that arrive. Redundancy doesn't show in
-- them.
abbrev pub units_of : Sending → List Sample → List Timed
units_of s samples = map whole_unit (canonical_units s.next (sent_samples s samples))

-- The end takes any datagram with the stream's SSRC and one of its payload types (or its RTX SSRC and type) as this
-- stream's.
abbrev pub IsFound : EndState → ℕ → Receiving → Type 0
IsFound e stream r =
    (ssrc pt : ℕ) → is_key_of r.ssrc r.types ssrc pt ≡ true → stream_for e.streams ssrc pt ≡ Some stream

-- The end's stream with this number is this one, and gets its own datagrams.
pub record HasReceiver (e : EndState) (stream : ℕ) (r : Receiving) : Type 0 where
  pub stream_is : receiver_at e stream ≡ r
  pub found : IsFound e stream r

-- The invariant of a sending stream: its payload types are below 128; its datagrams carry the right one; its SSRC has
-- 32 bits; its packetizer's state is one that the codec law covers; and its retransmissions have a different SSRC and a
-- 16-bit number.
pub record IsSender (s : Sending) : Type 0 where
  pub typed : IsTyped s
  pub payload_type : s.types.pt < 128
  pub wire_type : s.wire_type < 128
  pub ssrc : s.ssrc < 2 ^ 32
  pub reached : (coding_of s).IsReached s.packetizer
  pub beside : IsKeyBeside s.ssrc s.types.repair
  pub repairs : s.repairs < 65536

-- Samples a stream can send: each is well-formed for its codec, and its header extension values can be written.
pub record AreSound (s : Sending) (samples : List Sample) : Type 0 where
  pub well_formed : AreWellFormed (coding_of s) (packet_limit s) (samples_of s samples)
  pub values : All (λ x. AreValues x.values) samples

-- What these datagrams bring a receiving stream is what datagrams of a sending stream's samples bring it in this order
-- of arrival: a retransmission counts as the datagram that it repeats, and any other datagram brings nothing. Every
-- datagram of the samples arrives, at most as many as the receiver may hold: each at least once, the first time before
-- any whose number is 1,024 or more above it; the first to come is numbered below 65,536, and repeats are less than
-- 32,768 below the greatest. The receiving stream has the same payload types, extension map and row, and has heard
-- nothing yet.
pub record HasAllOf (e : EndState) (stream : ℕ) (holding : Holding) (sender : Sending) (samples : List Sample)
    (arrivals : List ℕ) (datagrams : List (List ℕ)) : Type 0 where
  pub receiver : HasReceiver e stream (opened_receiver sender.ssrc sender.types sender.map sender.row holding)
  pub sound : IsSender sender
  pub samples_sound : AreSound sender samples
  pub numbers : sender.next + count_of sender samples ≤ 2 ^ 62
  pub few : count_of sender samples ≤ holding.held
  pub own : own_events (receiver_at e stream) datagrams
      ≡ own_events (receiver_at e stream) (map (sent_datagram sender samples) arrivals)
  pub arrive : AreGoodArrivals sender.next (count_of sender samples) [] arrivals
