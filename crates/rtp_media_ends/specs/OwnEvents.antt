use Rattle.std.specs.Prelude.{ℕ, List, Option, Some, None, if◌then◌else◌}
use Rattle.std.specs.List.{filter_map}
use Rattle.rtp_wire.specs.Header.{header_in}
use Rattle.rtp_wire.specs.Maps.{empty_map}
use Rattle.rtp_wire.specs.declared.values.ExtensionValues.{ExtensionValues}
use Rattle.rtp_wire.specs.declared.header.RtpHeader.{RtpHeader}
use Rattle.rtp_wire.specs.Repairs.{Wrapped}
use Rattle.rtp_media_schedules.specs.Hearing.{Event, Comes, content_of}
use Rattle.rtp_media_streams.specs.Receiving.{Receiving, brought, is_own, values_read}

-- What a datagram's content is to the stream: nothing, or an arrival with a number's low bits and the content.
abbrev pub content_event : RtpHeader → ExtensionValues → Option Wrapped → Option Event
content_event h values None = None
content_event h values (Some w) = Some (Comes w.number (content_of h.timestamp h.marker values w.payload))

abbrev pub event_by : Receiving → Option RtpHeader → List ℕ → Option Event
event_by r None d = None
event_by r (Some h) d = if is_own r h.ssrc h.payload_type
    then content_event h (values_read r.map d) (brought r.ssrc r.types h d) else None

-- What a datagram is to a stream, by its SSRC, payload types and map of header extensions (RFC 3550 5.1).
abbrev pub event_in : Receiving → List ℕ → Option Event
event_in r d = event_by r (header_in empty_map d) d

-- The stream's own events among the datagrams, in order.
abbrev pub own_events : Receiving → List (List ℕ) → List Event
own_events r ds = filter_map (event_in r) ds
