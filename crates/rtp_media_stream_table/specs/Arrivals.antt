use Rattle.std.specs.Prelude.{ℕ, Bool, false, List, Option, Some, None, position}
use Rattle.rtp_wire.specs.Header.{header_in}
use Rattle.rtp_wire.specs.Maps.{empty_map}
use Rattle.rtp_wire.specs.declared.values.ExtensionValues.{ExtensionValues}
use Rattle.rtp_wire.specs.declared.header.RtpHeader.{RtpHeader}
use Rattle.rtp_wire.specs.Repairs.{Wrapped}
use Rattle.rtp_media_streams.specs.Receiving.{is_own, brought, taken_number, arrived, values_read}
use Rattle.rtp_media_streams.specs.Receiving.{with_stream}
use Rattle.rtp_media_stream_table.specs.Streams.{nth_receiver, set_receiver}
use Rattle.rtp_media_stream_table.specs.declared.open_stream.OpenStream.{OpenStream}
use Rattle.rtp_media_stream_table.specs.declared.open_stream.OpenStream.TheVariants.{Closed, Sender, Receiver}
use Rattle.rtp_media_stream_table.specs.declared.received.Received.{Received}
use Rattle.rtp_media_stream_table.specs.declared.received.Received.TheVariants.{Unreadable, Foreign, Damaged, Refused}
use Rattle.rtp_media_stream_table.specs.declared.received.Received.TheVariants.{Taken}

-- What a datagram is to an end: not RTP; of no receiving stream; a stream's own, but without a payload; or a stream's
-- own, with its 16-bit sequence number, timestamp, marker bit, header extension values (by the stream's map) and
-- payload.
pub data Arrival : Type 0 where
  NoHeader : Arrival
  NoStream : Arrival
  NoPayload : Arrival
  Own : (stream low time : ℕ) (marker : Bool) (values : ExtensionValues) (payload : List ℕ) → Arrival

-- What it brings, if it brings anything.
abbrev pub own_of : ℕ → RtpHeader → ExtensionValues → Option Wrapped → Arrival
own_of stream header values None = NoPayload
own_of stream header values (Some w) = Own stream w.number header.timestamp header.marker values w.payload

abbrev pub arrival_for : List OpenStream → Option ℕ → RtpHeader → List ℕ → Arrival
arrival_for streams None header datagram = NoStream
arrival_for streams (Some stream) header datagram =
    own_of stream header (values_read (nth_receiver streams stream).map datagram)
    (brought (nth_receiver streams stream).ssrc (nth_receiver streams stream).types header datagram)

-- Whether datagrams of this SSRC and type are a receiving stream's own.
abbrev pub takes : ℕ → ℕ → OpenStream → Bool
takes ssrc pt (Sender s) = false
takes ssrc pt (Receiver r) = is_own r ssrc pt
takes ssrc pt Closed = false

-- The number of the receiving stream of an SSRC and a payload type.
abbrev pub stream_for : List OpenStream → ℕ → ℕ → Option ℕ
stream_for streams ssrc pt = position (takes ssrc pt) streams

abbrev pub arrival_by : List OpenStream → Option RtpHeader → List ℕ → Arrival
arrival_by streams None datagram = NoHeader
arrival_by streams (Some header) datagram =
    arrival_for streams (stream_for streams header.ssrc header.payload_type) header datagram

-- What a datagram is to an end with these streams (RFC 3550 5.1).
abbrev pub arrival_at : List OpenStream → List ℕ → Arrival
arrival_at streams datagram = arrival_by streams (header_in empty_map datagram) datagram

abbrev pub verdict_on : ℕ → Option ℕ → Received
verdict_on stream None = Refused
verdict_on stream (Some number) = Taken stream number

-- What `receive` answers at these streams.
abbrev pub verdict_in : List OpenStream → Arrival → Received
verdict_in streams NoHeader = Unreadable
verdict_in streams NoStream = Foreign
verdict_in streams NoPayload = Damaged
verdict_in streams (Own stream low time marker values payload) =
    verdict_on stream (taken_number (nth_receiver streams stream).stream low)

-- The streams after `receive`: the stream that owns the datagram takes one step; otherwise nothing changes.
abbrev pub streams_after : List OpenStream → Arrival → List OpenStream
streams_after streams NoHeader = streams
streams_after streams NoStream = streams
streams_after streams NoPayload = streams
streams_after streams (Own stream low time marker values payload) =
    set_receiver streams stream (with_stream (nth_receiver streams stream)
    (arrived (nth_receiver streams stream).stream low time marker values payload))
