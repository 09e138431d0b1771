-- An end's streams, indexed by SSRC and payload type.
use Rattle.std.specs.Prelude.{◌≡◌, ◌<◌, ℕ, Bool, true, false, List, length, Option, Some, None}
use Rattle.rtp_media_streams.specs.Types.{is_key_of}
use Rattle.rtp_media_streams.specs.declared.types.PayloadTypes.{PayloadTypes}
use Rattle.rtp_media_streams.specs.declared.types.RepairKey.{RepairKey}
use Rattle.rtp_media_stream_table.specs.Arrivals.{takes}
use Rattle.rtp_media_stream_table.specs.Streams.{nth_stream, receives_as, sends_as}
use Rattle.rtp_media_stream_table.specs.StreamIndex.{number_at}
use Rattle.rtp_media_stream_table.specs.declared.stream_index.StreamIndex.{StreamIndex}
use Rattle.rtp_media_stream_table.specs.declared.open_stream.Direction.{Direction}
use Rattle.rtp_media_stream_table.specs.declared.open_stream.Direction.TheVariants.{Receives, Sends}
use Rattle.rtp_media_stream_table.specs.declared.open_stream.OpenStream.{OpenStream}
use Rattle.rtp_media_stream_table.specs.declared.open_stream.OpenStream.TheVariants.{Closed, Sender, Receiver}

-- Whether a stream could send datagrams of this SSRC and type.
abbrev pub sends : ℕ → ℕ → OpenStream → Bool
sends ssrc pt (Sender s) = is_key_of s.ssrc s.types ssrc pt
sends ssrc pt (Receiver r) = false
sends ssrc pt Closed = false

-- Whether a stream of this direction has this SSRC and type.
abbrev pub has_key : Direction → ℕ → ℕ → OpenStream → Bool
has_key Sends = sends
has_key Receives = takes

-- Whether a stream of this direction could have the datagrams of one of this SSRC and these payload types.
abbrev pub conflicts : Direction → ℕ → PayloadTypes → OpenStream → Bool
conflicts Sends = sends_as
conflicts Receives = receives_as

-- Whether a stream has the SSRC with this RED type, if there is one.
abbrev pub has_red : (ℕ → ℕ → OpenStream → Bool) → ℕ → Option ℕ → OpenStream → Bool
has_red has ssrc None stream = false
has_red has ssrc (Some red) stream = has ssrc red stream

-- What it has under a key of repairs, if there is one.
abbrev pub has_repair : (ℕ → ℕ → OpenStream → Bool) → Option RepairKey → OpenStream → Bool
has_repair has None stream = false
has_repair has (Some key) stream = has key.ssrc key.pt stream

-- Each stream that has an SSRC and a payload type is in the index under them.
abbrev pub IsIndexed : (ℕ → ℕ → OpenStream → Bool) → StreamIndex → List OpenStream → Type 0
IsIndexed has index streams = (n ssrc pt : ℕ) → n < length streams → has ssrc pt (nth_stream streams n) ≡ true
    → number_at index ssrc pt ≡ Some n

-- Sending streams are in one index, receiving streams in the other.
pub record AreIndexed (senders receivers : StreamIndex) (streams : List OpenStream) : Type 0 where
  pub sending : IsIndexed sends senders streams
  pub receiving : IsIndexed takes receivers streams
