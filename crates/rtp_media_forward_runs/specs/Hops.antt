-- Datagrams that are sent on packet by packet, and the stream that hears them.
use Rattle.std.specs.Prelude.{◌≡◌, ℕ, ◌%◌, ◌^◌, ◌<◌, if◌then◌else◌, List, [], ◌∷◌, ◌++◌, length, map, Option, Some}
use Rattle.std.specs.Prelude.{None}
use Rattle.std.specs.Prelude.{option_and_then, slice_get}
use Rattle.std.specs.List.{cons_option}
use Rattle.payload_core_base.specs.Outgoing.{outgoing}
use Rattle.rtp_wire.specs.Carried.{AreValues}
use Rattle.rtp_wire.specs.Header.{header_in}
use Rattle.rtp_wire.specs.Maps.{empty_map}
use Rattle.rtp_wire.specs.declared.values.ExtensionValues.{ExtensionValues}
use Rattle.rtp_wire.specs.declared.header.RtpHeader.{RtpHeader}
use Rattle.rtp_wire.specs.Repairs.{Wrapped}
use Rattle.rtp_media_schedules.specs.Hearing.{Content, Event, Comes, Poll, content_of}
use Rattle.payload_core_buffer.specs.Buffered.{Holding}
use Rattle.rtp_media_schedules.specs.Turns.{Turn, Arrive, Ask}
use Rattle.rtp_media_streams.specs.Receiving.{Receiving, brought, is_own, opened_receiver, values_read}
use Rattle.rtp_media_streams.specs.Sending.{Sending, carried, datagram_of}
use Rattle.rtp_media_forward.specs.Forwarding.{Forwarding, after_packet}
use Rattle.rtp_media_forward.specs.Relaying.{Packet, place_of}
use Rattle.rtp_media_forward.specs.declared.forwarder.Placed.{Placed}

-- (of rtp_media_ends: what a datagram is to a receiving stream)
abbrev pub content_event : RtpHeader → ExtensionValues → Option Wrapped → Option Event
content_event h values None = None
content_event h values (Some w) = Some (Comes w.number (content_of h.timestamp h.marker values w.payload))

abbrev pub event_by : Receiving → Option RtpHeader → List ℕ → Option Event
event_by r None d = None
event_by r (Some h) d = if is_own r h.ssrc h.payload_type
    then content_event h (values_read r.map d) (brought r.ssrc r.types h d) else None

abbrev pub event_in : Receiving → List ℕ → Option Event
event_in r d = event_by r (header_in empty_map d) d

-- A sending stream of its row's own type, without redundancy.
pub record IsPlain (s : Sending) : Type 0 where
  pub wire_type : s.wire_type ≡ s.types.pt
  pub payload_type : s.types.pt < 128
  pub ssrc : s.ssrc < 2 ^ 32

-- The stream that receives it.
abbrev pub receiver_of : Holding → Sending → Receiving
receiver_of holding s = opened_receiver s.ssrc s.types s.map s.row holding

-- The values that arrive, if those of a source's datagram are sent on as these.
abbrev pub values_by : Sending → (ExtensionValues → ExtensionValues) → ExtensionValues → ExtensionValues
values_by s own values = carried s (own values)

-- The datagrams that a stream sends of packets that come at a forwarder.
abbrev pub datagrams_by : Sending → (ExtensionValues → ExtensionValues) → Option Placed → Content → List (List ℕ)
datagrams_by s own None c = []
datagrams_by s own (Some at) c = datagram_of s at.number (outgoing c.bytes c.marker at.time (own c.values)) ∷ []

abbrev pub datagrams_on : Sending → (ExtensionValues → ExtensionValues) → (ℕ → ℕ → Content) → Forwarding
    → List Packet → List (List ℕ)
datagrams_on s own senders f [] = []
datagrams_on s own senders f (p ∷ ps) =
    datagrams_by s own (place_of senders f p) (senders p.source p.number)
    ++ datagrams_on s own senders (after_packet f (place_of senders f p) p.ends) ps

-- Each packet brings a byte, and its values can be written.
abbrev pub AreSendable : (ExtensionValues → ExtensionValues) → (ℕ → ℕ → Content) → List Packet → Type 0
AreSendable own senders [] = Unit {0}
AreSendable own senders (p ∷ ps) = (0 < length (senders p.source p.number).bytes)
    × AreValues (own (senders p.source p.number).values) × AreSendable own senders ps

-- To a receiving stream these are the datagrams of a sender's numbers.
abbrev pub AreHeardAs : Receiving → (ℕ → Content) → List (List ℕ) → List ℕ → Type 0
AreHeardAs r sender ds ys =
    map (event_in r) ds ≡ map (λ y. Some (Comes (y % 65536) (sender y))) ys

-- What a receiving stream hears where datagrams of these places come, in any order, some never and some more than
-- once, and it is polled.
abbrev pub heard_of : Receiving → List (List ℕ) → List Turn → List Event
heard_of r ds [] = []
heard_of r ds (Arrive k ∷ ts) = cons_option (option_and_then (event_in r) (slice_get ds k)) (heard_of r ds ts)
heard_of r ds (Ask ∷ ts) = Poll ∷ heard_of r ds ts

abbrev pub arrival_of : Option ℕ → List Turn → List Turn
arrival_of None ts = ts
arrival_of (Some y) ts = Arrive y ∷ ts

-- The same turns by true numbers.
abbrev pub numbered_turns : List ℕ → List Turn → List Turn
numbered_turns ys [] = []
numbered_turns ys (Arrive k ∷ ts) = arrival_of (slice_get ys k) (numbered_turns ys ts)
numbered_turns ys (Ask ∷ ts) = Ask ∷ numbered_turns ys ts
