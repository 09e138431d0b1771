-- Receiving streams.
use Rattle.std.specs.Prelude.{ℕ, Bool, if◌then◌else◌, List, [], ◌∷◌, Option, Some, None, option_and_then, slice_range}
use Rattle.rtp_wire.specs.Header.{header_in, payload_in}
use Rattle.rtp_wire.specs.Padding.{unpadded}
use Rattle.rtp_wire.specs.Replay.{Window, is_accepted, recorded_in}
use Rattle.rtp_wire.specs.Values.{Numbering, absent}
use Rattle.rtp_wire.specs.declared.values.ExtensionValues.{ExtensionValues}
use Rattle.rtp_wire.specs.declared.header.RtpHeader.{RtpHeader}
use Rattle.rtp_wire.specs.Repairs.{Wrapped, wrapped_in}
use Rattle.payload_core_base.specs.Format.{Fragment}
use Rattle.payload_core_buffer.specs.Buffered.{Buffered, Holding}
use Rattle.rtp_media_schedules.specs.Hearing.{Stream, content_of, fresh, number_at, taken_by, polled}
use Rattle.rtp_media_streams.specs.Redundant.{unwrapped}
use Rattle.rtp_media_streams.specs.Rows.{format_of}
use Rattle.rtp_media_streams.specs.Types.{is_key_of, is_plain_key, share_key}
use Rattle.rtp_media_streams.specs.declared.payload.Brought.{Brought}
use Rattle.rtp_media_streams.specs.declared.row_format.RowFormat.{RowFormat}
use Rattle.rtp_media_streams.specs.declared.types.PayloadTypes.{PayloadTypes}

-- A receiving stream: the SSRC and payload types of its datagrams (RFC 3550 5.1), its header extension numbers (RFC
-- 8285 5), its row's payload format, and its state.
pub record Receiving : Type 0 where
  pub ssrc : ℕ
  pub types : PayloadTypes
  pub map : Numbering
  pub row : RowFormat
  pub stream : Stream

-- A stream that heard nothing.
abbrev pub opened_receiver : ℕ → PayloadTypes → Numbering → RowFormat → Holding → Receiving
opened_receiver ssrc types map row holding = record {
  ssrc = ssrc;
  types = types;
  map = map;
  row = row;
  stream = fresh holding;
}

-- The same stream with another state.
abbrev pub with_stream : Receiving → Stream → Receiving
with_stream r s = record { ssrc = r.ssrc; types = r.types; map = r.map; row = r.row; stream = s }

abbrev pub values_of_header : Option RtpHeader → ExtensionValues
values_of_header None = absent
values_of_header (Some h) = h.ext_vals

-- The values that a datagram's header extensions have under these numbers (RFC 8285 5).
abbrev pub values_read : Numbering → List ℕ → ExtensionValues
values_read map datagram = values_of_header (header_in map datagram)

-- Whether datagrams of this SSRC and type are its own.
abbrev pub is_own : Receiving → ℕ → ℕ → Bool
is_own r ssrc pt = is_key_of r.ssrc r.types ssrc pt

-- Whether its datagrams could be those of another stream of this SSRC and these payload types.
abbrev pub conflicts_with : Receiving → ℕ → PayloadTypes → Bool
conflicts_with r ssrc types = share_key r.ssrc r.types ssrc types

-- The payload of a datagram that isn't a retransmission: without padding (RFC 3550 5.1) and, with the RED type, without
-- redundancy (RFC 2198).
abbrev pub media_payload : PayloadTypes → RtpHeader → List ℕ → Option (List ℕ)
media_payload types header datagram =
    option_and_then (unwrapped types header.payload_type) (unpadded header.has_padding (payload_in header datagram))

-- What such a datagram brings: its payload, if not empty, under its own sequence number.
abbrev pub plain_brought : RtpHeader → Option (List ℕ) → Option Wrapped
plain_brought header None = None
plain_brought header (Some []) = None
plain_brought header (Some (byte ∷ bytes)) =
    Some (record { number = header.sequence_number; payload = byte ∷ bytes })

-- What a payload without padding brings to a stream: a plain datagram its payload under its own sequence number, a
-- retransmission the original payload under the original number.
abbrev pub carried : ℕ → PayloadTypes → RtpHeader → List ℕ → Option Wrapped
carried ssrc types header payload =
    if is_plain_key ssrc types header.ssrc header.payload_type
    then plain_brought header (unwrapped types header.payload_type payload) else wrapped_in payload

-- What is at a place of a datagram under a number.
abbrev pub wrapped_at : List ℕ → Brought → Wrapped
wrapped_at datagram b = record { number = b.number; payload = slice_range datagram b.start b.end }

-- What one of its datagrams brings to a stream: 16 bits of a sequence number, and a nonempty payload. A retransmission
-- brings what it wraps.
abbrev pub brought : ℕ → PayloadTypes → RtpHeader → List ℕ → Option Wrapped
brought ssrc types header datagram =
    if is_plain_key ssrc types header.ssrc header.payload_type
    then plain_brought header (media_payload types header datagram)
    else option_and_then wrapped_in (unpadded header.has_padding (payload_in header datagram))

-- The number of a datagram with these low bits, if it is taken.
abbrev pub taken_number : Stream → ℕ → Option ℕ
taken_number s low = if is_accepted s.window (number_at s low) then Some (number_at s low) else None

-- The stream after it.
abbrev pub arrived : Stream → ℕ → ℕ → Bool → ExtensionValues → List ℕ → Stream
arrived s low time marker values payload = taken_by s (number_at s low) (content_of time marker values payload)

-- The stream after it, if its number alone is recorded and nothing of it is held.
abbrev pub number_taken : Stream → ℕ → Stream
number_taken s low =
    if is_accepted s.window (number_at s low)
    then record s { window = Some (recorded_in s.window (number_at s low)) } else s

-- The stream after a poll.
abbrev pub polled_receiver : Receiving → Receiving
polled_receiver r = with_stream r (polled (format_of r.row) r.stream)

-- The stream of a window, a buffer and an open fragment.
abbrev pub stream_of : {D : Type 0} → Option Window → Buffered D → Fragment → Stream
stream_of window b fragment = record {
  holding = b.holding;
  window = window;
  held = b.held;
  cutoff = b.cutoff;
  fragment = fragment;
}
